-- From any position, whatever happens between the steps, a walk lists only nodes that resolve, N at most; a stale start lists nothing.
-- Assumes nothing.
use Rattle.std.specs.Prelude.{Some, None, Result, Ok, Err, Option}
use Rattle.std.specs.declared.ops.ControlFlow.TheVariants.{Continue, Break}
use mathlib.Core.Path.{◌≡◌, refl, sym, ap, ◌∙◌}
use mathlib.Core.Bool.{Bool, true, false, cond, ◌&&◌}
use mathlib.Core.List.{List, [], ◌∷◌}
use Prim.Native.Nat.{ℕ, zero, suc, ◌+◌, ◌-◌, ◌≤◌, ◌<◌, min}
use native.Mathlib.Omega.{arith}
use borrow.Author.Tests.{leb-true, ltb-true}
use lib.Dec.{eqb, leb, ltb}
use lib.ListN.{length, get_or}
use Rattle.words.specs.Lists.{all}
use Rattle.words.proofs.Tests.{and_left}
use Rattle.model.specs.Kinds.{children}
use Rattle.model.specs.declared.Refusal.{Refusal}
use Rattle.model.specs.declared.Refusal.TheVariants.{BadBuffers}
use Rattle.layout.specs.declared.Document.{Document}
use Rattle.layout.specs.Layout.{memory_ok}
use Rattle.memory.specs.Decode.{decode}
use Rattle.model.specs.Doc.{Doc, resolves, parent_at, shown_list, any_option, map_option}
use Rattle.steps.specs.declared.position.Position.{Position}
use Rattle.steps.specs.declared.step.Above.{Above}
use Rattle.steps.specs.Next.{hint_for, with_hint, hinted_index, names_parent, visit_entry, seek_under, parent_below, seek, resumed, following, successor, next, start}
use Rattle.descendants.specs.Walking.{listed, list_from, walked, more, looked_under, looked}
use Rattle.descendants.specs.Contract.{starts_of, next_of, nodes_of, next_until_end, walk_of}
use Rattle.descendants.specs.Claim.{StaleStart, Lent, Seen, seen, along, Limited, FromAnywhere, OneStep}

abbrev Answer : Type 0
Answer = Result (Option Position) Refusal

abbrev above_at : ℕ → ℕ → Above
above_at q r = record { node = q; room = r }

-- what a step that goes on tells
abbrev Tells : Doc → Position → Option Position → Type 0
Tells d p w = (q : Position) → w ≡ Some q → (resolves d q.node ≡ true) × (q.left ≡ min p.left d.limits.nodes - 1)

end-tells : (d : Doc) (p : Position) → Tells d p None
end-tells d p q e = absurd (let z : ◌≡◌ {A = ℕ} 0 1 = cc in omega arith)

names-resolves : (d : Doc) (q y : ℕ) → names_parent d q y ≡ true → resolves d y ≡ true
names-resolves d q y = go (resolves d y)
  where
    go : (b : Bool) → any_option (eqb q) (cond b (parent_at d y) None) ≡ true → b ≡ true
    go true e = refl
    go false e = e

visit-tells : (d : Doc) (p : Position) (q : ℕ) (l : List ℕ) (k : ℕ) → Tells d p (visit_entry d p q l k)
visit-tells d p q l k = go (names_parent d q (get_or l k 0)) refl
  where
    to : Position
    to = record { zone = p.zone; node = get_or l k 0; hints = with_hint p.hints (length l) k; left = min p.left d.limits.nodes - 1 }

    same : (v : Position) → Some to ≡ Some v → to ≡ v
    same v e = cc

    go : (b : Bool) → names_parent d q (get_or l k 0) ≡ b → Tells d p (cond b (Some to) None)
    go true r v e =
        let z = same v e in
        (ap (λ (x : Position). resolves d x.node) (sym z) ∙ names-resolves d q (get_or l k 0) r, ap (λ (x : Position). x.left) (sym z))
    go false r v e = end-tells d p v e

following-tells : (f room : ℕ) (d : Doc) (p : Position) (x : ℕ) → Tells d p (following f room d p x)
unfolding seek
following-tells zero room d p x = end-tells d p
following-tells (suc f) room d p x = go (λ q rest. following-tells f rest d p q) (parent_below d p x)
  where
    above : ℕ → ℕ → Option Position
    above q rest = following f rest d p q

    found : (w : Option Position) → Tells d p w → Tells d p (resumed above (Break w))
    found None h = h
    found (Some v) h = h

    under : ((q rest : ℕ) → Tells d p (following f rest d p q)) → (q : ℕ) (l : List ℕ) (k : ℕ) (b c : Bool)
        → Tells d p (resumed above (cond b (cond c (Break (visit_entry d p q l (suc k))) (Continue (above_at q (room - length l)))) (Break None)))
    under ih q l k true true = found (visit_entry d p q l (suc k)) (visit-tells d p q l (suc k))
    under ih q l k true false = ih q (room - length l)
    under ih q l k false c = end-tells d p

    go : ((q rest : ℕ) → Tells d p (following f rest d p q)) → (o : Option ℕ) → Tells d p (resumed above (seek_under room d p x o))
    go ih None = end-tells d p
    go ih (Some q) =
        let l : List ℕ = shown_list d children q in
        let k : ℕ = hinted_index l x (hint_for p.hints (length l)) in
        under ih q l k (resolves d q && leb (length l) room) (ltb (suc k) (length l))

pub next-tells : (d : Doc) (p : Position) → Tells d p (next d p)
next-tells d p = go (ltb 0 (min p.left d.limits.nodes) && resolves d p.node) (ltb 0 (length l))
  where
    l : List ℕ
    l = shown_list d children p.node

    go : (b c : Bool) → Tells d p (cond b (cond c (visit_entry d p p.node l 0) (following (length d.gens) (length d.gens) d p p.node)) None)
    go true true = visit-tells d p p.node l 0
    go true false = following-tells (length d.gens) (length d.gens) d p p.node
    go false c = end-tells d p

-- a step that goes on may
next-may : (d : Doc) (p q : Position) → next d p ≡ Some q → 0 < min p.left d.limits.nodes
next-may d p q e = go (ltb 0 (min p.left d.limits.nodes) && resolves d p.node) refl e
  where
    l : List ℕ
    l = shown_list d children p.node

    go : (b : Bool) → (ltb 0 (min p.left d.limits.nodes) && resolves d p.node) ≡ b
        → cond b (cond (ltb 0 (length l)) (visit_entry d p p.node l 0) (following (length d.gens) (length d.gens) d p p.node)) None ≡ Some q → 0 < min p.left d.limits.nodes
    go true r f = ltb-true 0 (min p.left d.limits.nodes) (and_left (ltb 0 (min p.left d.limits.nodes)) (resolves d p.node) r)
    go false r f = absurd (let z : ◌≡◌ {A = ℕ} 0 1 = cc in omega arith)

-- a call that lists a node made the step
next-called : (d : Document) (mem : List ℕ) (p q : Position) → next_of d mem p ≡ Ok (Some q) → next (decode d mem) p ≡ Some q
unfolding next_of
next-called d mem p q = go (memory_ok d (length mem)) (next (decode d mem) p)
  where
    same : (v : Position) → ◌≡◌ {A = Answer} (Ok (Some v)) (Ok (Some q)) → v ≡ q
    same v e = cc

    go : (b : Bool) (w : Option Position) → cond b (Ok w) (Err BadBuffers) ≡ Ok (Some q) → w ≡ Some q
    go true (Some v) e = ap Some (same v e)
    go true None e = absurd (let z : ◌≡◌ {A = ℕ} 0 1 = cc in omega arith)
    go false w e = absurd (let z : ◌≡◌ {A = ℕ} 0 1 = cc in omega arith)

module _ (n : ℕ) where
  bounded : (ms : List Lent) (p : Position) → Limited n ms → length (along ms p) ≤ min p.left n
  bounded [] p h = omega arith
  bounded (m ∷ ms) p h = go (next_of m.document m.memory p) refl (λ q. bounded ms q h.1)
    where
      D : Doc
      D = decode m.document m.memory

      go : (r : Answer) → next_of m.document m.memory p ≡ r → ((q : Position) → length (along ms q) ≤ min q.left n)
          → length (seen D (λ q. along ms q) r) ≤ min p.left n
      go (Ok None) e ih = omega arith
      go (Err w) e ih = omega arith
      go (Ok (Some q)) e ih =
          let s = next-called m.document m.memory p q e in
          omega (arith, ih q, (next-tells D p q s).1, next-may D p q s, h.0)

  pub at_most : (ms : List Lent) (p : Position) → Limited n ms → length (along ms p) ≤ n
  at_most ms p h = omega (arith, bounded ms p h)

abbrev resolving : Seen → Bool
resolving s = resolves s.doc s.node

pub only-resolving : (ms : List Lent) (p : Position) → all resolving (along ms p) ≡ true
only-resolving [] p = refl
only-resolving (m ∷ ms) p = go (next_of m.document m.memory p) refl (λ q. only-resolving ms q)
  where
    D : Doc
    D = decode m.document m.memory

    go : (r : Answer) → next_of m.document m.memory p ≡ r → ((q : Position) → all resolving (along ms q) ≡ true) → all resolving (seen D (λ q. along ms q) r) ≡ true
    go (Ok None) e ih = refl
    go (Err w) e ih = refl
    go (Ok (Some q)) e ih = rw (next-tells D p q (next-called m.document m.memory p q e)).0 (ih q)

pub from-anywhere : FromAnywhere
from-anywhere n ms p h = (at_most n ms p h, only-resolving ms p)

-- ---- the calls, until the end

module _ (d : Document) (mem : List ℕ) (ok : memory_ok d (length mem) ≡ true) where
  abbrev D : Doc
  D = decode d mem

  next-answers : (p : Position) → next_of d mem p ≡ Ok (next D p)
  unfolding next_of
  next-answers p = ap (λ (b : Bool). cond b (Ok (next D p)) (Err BadBuffers)) ok

  -- as many calls as may list a node, and one more, reach it
  pub until_end : (n : ℕ) (p : Position) → min p.left d.limits.nodes ≤ n → next_until_end (suc n) d mem p ≡ Some (list_from n D p)
  until_end zero p h = ap (nodes_of (λ q. None)) (next-answers p) ∙ go (next D p) refl
    where
      go : (w : Option Position) → next D p ≡ w → nodes_of (λ q. None) (Ok w) ≡ Some []
      go None e = refl
      go (Some q) e = absurd (omega (arith, h, next-may D p q e))
  until_end (suc n) p h = ap (nodes_of (λ q. next_until_end (suc n) d mem q)) (next-answers p) ∙ go (λ q r. until_end n q r) (next D p) refl
    where
      go : ((q : Position) → min q.left d.limits.nodes ≤ n → next_until_end (suc n) d mem q ≡ Some (list_from n D q)) → (w : Option Position) → next D p ≡ w
          → nodes_of (λ q. next_until_end (suc n) d mem q) (Ok w) ≡ Some (listed (λ q. list_from n D q) w)
      go ih None e = refl
      go ih (Some q) e = ap (map_option (λ l. q.node ∷ l)) (ih q (omega (arith, h, (next-tells D p q e).1, next-may D p q e)))

  -- by its calls a walk lists what `list_below` writes
  pub by-calls : (h : ℕ) → walk_of d mem h ≡ Some (walked D h)
  unfolding starts_of
  by-calls h = rw ok (until_end d.limits.nodes (start d.limits.nodes h) (omega arith))

-- ---- a stale start

pub from-stale : (d : Doc) (h : ℕ) → resolves d h ≡ false → (n : ℕ) → list_from n d (start d.limits.nodes h) ≡ []
from-stale d h r zero = refl
from-stale d h r (suc n) =
    ap (λ (b : Bool). listed (λ q. list_from n d q) (cond b (successor d (start d.limits.nodes h)) None)) (both (ltb 0 (min d.limits.nodes d.limits.nodes)) (resolves d h) r)
  where
    both : (a b : Bool) → b ≡ false → (a && b) ≡ false
    both true b e = e
    both false b e = refl

pub stale-start : StaleStart
stale-start d mem h ok r = let e = from-stale (decode d mem) h r d.limits.nodes in (by-calls d mem ok h ∙ ap Some e, e)

-- ---- one step

looked-within : (f room : ℕ) (d : Doc) (p : Position) (x : ℕ) → looked f room d p x ≤ room
unfolding seek
looked-within zero room d p x = omega arith
looked-within (suc f) room d p x = go (λ q rest. looked-within f rest d p q) (parent_below d p x)
  where
    above : ℕ → ℕ → ℕ
    above q rest = looked f rest d p q

    found : (n : ℕ) (w : Option Position) → n + more above (Break w) ≡ n
    found n None = omega arith
    found n (Some v) = omega arith

    under : ((q rest : ℕ) → looked f rest d p q ≤ rest) → (q n : ℕ) (w : Option Position) (s b c : Bool) → leb n room ≡ b
        → cond b n 0 + more above (cond (s && b) (cond c (Break w) (Continue (above_at q (room - n)))) (Break None)) ≤ room
    under ih q n w true true true e = omega (arith, leb-true n room e, found n w)
    under ih q n w true true false e = omega (arith, leb-true n room e, ih q (room - n))
    under ih q n w true false c e = omega arith
    under ih q n w false true c e = omega (arith, leb-true n room e)
    under ih q n w false false c e = omega arith

    go : ((q rest : ℕ) → looked f rest d p q ≤ rest) → (o : Option ℕ) → looked_under room d o + more above (seek_under room d p x o) ≤ room
    go ih None = omega arith
    go ih (Some q) =
        let l : List ℕ = shown_list d children q in
        let k : ℕ = hinted_index l x (hint_for p.hints (length l)) in
        under ih q (length l) (visit_entry d p q l (suc k)) (resolves d q) (leb (length l) room) (ltb (suc k) (length l)) refl

pub one-step : OneStep
one-step d p = looked-within (length d.gens) (length d.gens) d p p.node
