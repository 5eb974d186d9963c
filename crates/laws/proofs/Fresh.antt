-- Handles are never made twice while fewer than 2^31 births are gone: a birth and a removal keep that.
-- Assumes nothing.
use mathlib.Core.Path.{◌≡◌, refl, sym, ap, ◌∙◌, subst}
use mathlib.Core.Logic.{◌≢◌, ◌⊎◌, inl, inr}
use mathlib.Core.Bool.{Bool, true, false, cond, false≢true, true≢false}
use mathlib.Core.List.{List}
use Prim.Native.Nat.{ℕ, zero, suc, ◌+◌, ◌*◌, ◌%◌, ◌≤◌, ◌<◌}
use native.Mathlib.Omega.{arith}
use native.Mathlib.Decide.{ℕ_discrete}
use borrow.Author.Tests.{eqb-false, eq-eqb, ne_eqb}
use lib.ListN.{length, get_or}
use Rattle.records.specs.Handles.{handle_index, handle_generation}
use Rattle.model.specs.Doc.{even}
use Rattle.model.specs.Edits.{up}
use Rattle.model.specs.Tree.{update}
use Rattle.laws.specs.Claim.{gone_below}
use Rattle.laws.proofs.Sim.{Unrepeated, Fresh}

-- ---- counting what is gone

pub gone-le : (f g : ℕ → Bool) (n : ℕ) → ((b : ℕ) → b < n → g b ≡ true → f b ≡ true) → gone_below f n ≤ gone_below g n
gone-le f g zero h = omega arith
gone-le f g (suc n) h = go (gone-le f g n (λ b lt. h b (omega arith))) (f n) (g n) (h n (omega arith))
  where
    go : gone_below f n ≤ gone_below g n → (p q : Bool) → (q ≡ true → p ≡ true) → cond p 0 1 + gone_below f n ≤ cond q 0 1 + gone_below g n
    go ih true true k = omega arith
    go ih true false k = omega arith
    go ih false true k = absurd (false≢true (k refl))
    go ih false false k = omega arith

pub gone-lt : (f g : ℕ → Bool) (n c : ℕ) → ((b : ℕ) → b < n → g b ≡ true → f b ≡ true) → c < n → f c ≡ true → g c ≡ false → gone_below f n < gone_below g n
gone-lt f g zero c h lt p q = absurd (omega arith)
gone-lt f g (suc n) c h lt p q = part (λ m. gone-lt f g n c (λ b l. h b (omega arith)) m p q) (ℕ_discrete c n)
  where
    go : gone_below f n < gone_below g n → (p q : Bool) → (q ≡ true → p ≡ true) → cond p 0 1 + gone_below f n < cond q 0 1 + gone_below g n
    go ih true true k = omega arith
    go ih true false k = omega arith
    go ih false true k = absurd (false≢true (k refl))
    go ih false false k = omega arith

    part : (c < n → gone_below f n < gone_below g n) → Dec (c ≡ n) → cond (f n) 0 1 + gone_below f n < cond (g n) 0 1 + gone_below g n
    part ih (yes e) =
        let fn : f n ≡ true = ap f (sym e) ∙ p in
        let gn : g n ≡ false = ap g (sym e) ∙ q in
        let z = gone-le f g n (λ b l. h b (omega arith)) in
        rw (fn, gn) (omega arith)
    part ih (no m) = go (ih (omega arith)) (f n) (g n) (h n (omega arith))

-- ---- the generation that goes up

pub up-plain : (g : ℕ) → g < 4294967295 → up g ≡ suc g
up-plain g h = omega arith

pub up-even : (g : ℕ) → even g ≡ false → even (up g) ≡ true
up-even g o =
    let n : g % 2 ≢ 0 = eqb-false (g % 2) 0 o in
    eq-eqb (up g % 2) 0 (omega arith)

-- ---- a birth: its slot was not there, or had an odd generation

pub fresh-born : (gens gens' : List ℕ) (n : ℕ) (live : ℕ → Bool) (hs : ℕ → ℕ)
    → ((b : ℕ) → live b ≡ true → even (get_or gens (handle_index (hs b)) 1) ≡ true)
    → even (get_or gens (handle_index (hs n)) 1) ≡ false
    → get_or gens' (handle_index (hs n)) 1 ≡ handle_generation (hs n)
    → ((i : ℕ) → i ≢ handle_index (hs n) → get_or gens' i 1 ≡ get_or gens i 1)
    → handle_index (hs n) < length gens' → ((i : ℕ) → i < length gens' → i ≢ handle_index (hs n) → i < length gens) → length gens ≤ length gens'
    → ((length gens ≤ handle_index (hs n)) × (handle_generation (hs n) ≡ 0))
    ⊎ ((handle_index (hs n) < length gens) × (handle_generation (hs n) ≡ up (get_or gens (handle_index (hs n)) 1)))
    → Fresh gens n live hs → Fresh gens' (suc n) (update live n true) hs
fresh-born gens gens' n live hs evens was here others inside back grow how F small =
    record { in_slots = in_slots; older = older; bound = bound; apart = apart }
  where
    x : ℕ
    x = handle_index (hs n)

    How : Type 0
    How = ((length gens ≤ x) × (handle_generation (hs n) ≡ 0)) ⊎ ((x < length gens) × (handle_generation (hs n) ≡ up (get_or gens x 1)))

    same : (b : ℕ) → b < n → update live n true b ≡ live b
    same b lt = rw (ne_eqb b n (omega arith))

    count-eq : gone_below (update live n true) (suc n) ≡ gone_below live n
    count-eq =
        ap (λ (q : Bool). cond (cond q true (live n)) 0 1 + gone_below (update live n true) n) (eq-eqb n n refl) ∙ ext n (λ b lt. same b lt)
      where
        ext : (m : ℕ) → ((b : ℕ) → b < m → update live n true b ≡ live b) → 0 + gone_below (update live n true) m ≡ gone_below live m
        ext zero h = refl
        ext (suc m) h =
            let ih = ext m (λ b lt. h b (omega arith)) in
            rw (h m (omega arith)) (omega arith)

    P : Unrepeated gens n live hs
    P = F (omega (arith, count-eq))

    -- an older birth of the same slot is gone, and its generation lower
    lower : (b : ℕ) → b < n → handle_index (hs b) ≡ x → handle_generation (hs b) < handle_generation (hs n)
    lower b lt e = go (live b) refl how
      where
        go : (q : Bool) → live b ≡ q → How → handle_generation (hs b) < handle_generation (hs n)
        go true lb h = absurd (true≢false (sym (evens b lb) ∙ ap (λ (i : ℕ). even (get_or gens i 1)) e ∙ was))
        go false lb (inl h) =
            let i = P.in_slots b lt in
            let i' : x < length gens = subst (λ (j : ℕ). j < length gens) e i in
            absurd (omega (arith, h.0))
        go false lb (inr h) =
            let o' : handle_generation (hs b) < get_or gens x 1 = subst (λ (i : ℕ). handle_generation (hs b) < get_or gens i 1) e (P.older b lt lb) in
            omega (arith, h.1, up-plain (get_or gens x 1) (omega (arith, P.bound x h.0, small, count-eq)))

    in_slots : (b : ℕ) → b < suc n → handle_index (hs b) < length gens'
    in_slots b lt = go (ℕ_discrete b n)
      where
        go : Dec (b ≡ n) → handle_index (hs b) < length gens'
        go (yes e) = rw e inside
        go (no m) = omega (arith, P.in_slots b (omega arith), grow)

    older : (b : ℕ) → b < suc n → update live n true b ≡ false → handle_generation (hs b) < get_or gens' (handle_index (hs b)) 1
    older b lt lb = go (ℕ_discrete b n)
      where
        slot : b < n → Dec (handle_index (hs b) ≡ x) → handle_generation (hs b) < get_or gens' (handle_index (hs b)) 1
        slot bn (yes e) = rw (e, here) (lower b bn e)
        slot bn (no m) = rw (others (handle_index (hs b)) m) (P.older b bn (sym (same b bn) ∙ lb))

        go : Dec (b ≡ n) → handle_generation (hs b) < get_or gens' (handle_index (hs b)) 1
        go (yes e) = absurd (true≢false (sym (ap (λ (q : Bool). cond q true (live b)) (eq-eqb b n e)) ∙ lb))
        go (no m) = slot (omega arith) (ℕ_discrete (handle_index (hs b)) x)

    bound : (i : ℕ) → i < length gens' → get_or gens' i 1 ≤ 2 * gone_below (update live n true) (suc n)
    bound i lt = go (ℕ_discrete i x) how
      where
        go : Dec (i ≡ x) → How → get_or gens' i 1 ≤ 2 * gone_below (update live n true) (suc n)
        go (yes e) (inl h) = rw (e, here, h.1) (omega arith)
        go (yes e) (inr h) =
            let b = P.bound x h.0 in
            let o : get_or gens x 1 % 2 ≢ 0 = eqb-false (get_or gens x 1 % 2) 0 was in
            rw (e, here, count-eq) (omega (arith, h.1, up-plain (get_or gens x 1) (omega (arith, small, count-eq))))
        go (no m) h = rw (others i m, count-eq) (P.bound i (back i lt m))

    apart : (a b : ℕ) → a < b → b < suc n → hs a ≢ hs b
    apart a b ab bn = go (ℕ_discrete b n)
      where
        go : Dec (b ≡ n) → hs a ≢ hs b
        go (yes e) = λ f.
            let i : handle_index (hs a) ≡ x = ap handle_index (f ∙ ap hs e) in
            let g : handle_generation (hs a) ≡ handle_generation (hs n) = ap handle_generation (f ∙ ap hs e) in
            absurd (omega (arith, lower a (omega arith) i))
        go (no m) = P.apart a b ab (omega arith)

-- ---- births gone: their slots' generations went up by one, no other's did

pub fresh-gone : (gens gens' : List ℕ) (n : ℕ) (live live' : ℕ → Bool) (hs : ℕ → ℕ) (c : ℕ)
    → ((b : ℕ) → live' b ≡ true → live b ≡ true) → c < n → live c ≡ true → live' c ≡ false
    → ((b : ℕ) → live b ≡ true → get_or gens (handle_index (hs b)) 1 ≡ handle_generation (hs b))
    → length gens' ≡ length gens
    → ((i : ℕ) → i < length gens → (get_or gens' i 1 ≡ get_or gens i 1) ⊎ (get_or gens' i 1 ≡ up (get_or gens i 1)))
    → ((b : ℕ) → live b ≡ true → live' b ≡ false → get_or gens' (handle_index (hs b)) 1 ≡ up (get_or gens (handle_index (hs b)) 1))
    → Fresh gens n live hs → Fresh gens' n live' hs
fresh-gone gens gens' n live live' hs c sub cn lc lc' gen len each dead F small =
    record {
      in_slots = λ b lt. omega (arith, P.in_slots b lt, len);
      older = λ b lt lb. older b lt lb (live b) refl;
      bound = λ i lt. bound i (omega (arith, len)) (each i (omega (arith, len)));
      apart = P.apart;
    }
  where
    more : gone_below live n < gone_below live' n
    more = gone-lt live live' n c (λ b _. sub b) cn lc lc'

    P : Unrepeated gens n live hs
    P = F (omega (arith, more, small))

    plain : (i : ℕ) → i < length gens → up (get_or gens i 1) ≡ suc (get_or gens i 1)
    plain i lt = up-plain (get_or gens i 1) (omega (arith, P.bound i lt, more, small))

    older : (b : ℕ) → b < n → live' b ≡ false → (q : Bool) → live b ≡ q → handle_generation (hs b) < get_or gens' (handle_index (hs b)) 1
    older b lt lb true e = omega (arith, dead b e lb, plain (handle_index (hs b)) (P.in_slots b lt), gen b e)
    older b lt lb false e = go (each (handle_index (hs b)) (P.in_slots b lt))
      where
        go : (get_or gens' (handle_index (hs b)) 1 ≡ get_or gens (handle_index (hs b)) 1) ⊎ (get_or gens' (handle_index (hs b)) 1 ≡ up (get_or gens (handle_index (hs b)) 1))
            → handle_generation (hs b) < get_or gens' (handle_index (hs b)) 1
        go (inl h) = omega (arith, P.older b lt e)
        go (inr h) = omega (arith, P.older b lt e, plain (handle_index (hs b)) (P.in_slots b lt))

    bound : (i : ℕ) → i < length gens → (get_or gens' i 1 ≡ get_or gens i 1) ⊎ (get_or gens' i 1 ≡ up (get_or gens i 1)) → get_or gens' i 1 ≤ 2 * gone_below live' n
    bound i lt (inl h) = omega (arith, P.bound i lt, more)
    bound i lt (inr h) = omega (arith, P.bound i lt, more, plain i lt)
