-- The nodes that a rebuild meets: the trees of the parentless nodes in slot order, each node once; and in the end every node that stands among children or has no parent.
-- Assumes nothing.
use Rattle.std.proofs.lemmas.Option.{none-some}
use Rattle.std.specs.Prelude.{Option, None, Some}
use mathlib.Core.Path.{◌≡◌, refl, sym, ap, ◌∙◌, subst}
use mathlib.Core.Logic.{◌⊎◌, inl, inr}
use mathlib.Core.Bool.{Bool, true, false, cond, ◌&&◌}
use mathlib.Core.List.{List, [], ◌∷◌, ◌++◌, reverse, reverse-append, reverse-reverse, append_assoc, append-nil, Memᴰ}
use Prim.Native.Nat.{ℕ, zero, suc, ◌+◌, ◌≤◌, ◌<◌}
use native.Mathlib.Omega.{arith}
use lib.ListN.{length, length-append, length-reverse}
use lib.Dec.{eqb}
use borrow.Author.Tests.{eq-eqb}
use Rattle.words.specs.Lists.{count_of, joined, keep, tabulate}
use Rattle.words.proofs.Joined.{joined-append}
use Rattle.words.proofs.Tests.{and_both}
use Rattle.records.specs.Handles.{handle_index, handle_generation}
use Rattle.records.proofs.Handles.{handle_index-word_of, handle_generation-word_of}
use Rattle.model.specs.Kinds.{Which, children, which_of, owns}
use Rattle.model.specs.Doc.{Doc, generation_at, live_slot, handle_at, resolves, kind_in, kind_at, parent_in, parent_at, list_at, is_none}
use Rattle.model.specs.Rules.{Rules, Ends}
use Rattle.model.specs.Edits.{walk, rebuilt}
use Rattle.laws.proofs.Rebuilt.{container-child, mem-keep}
use Rattle.laws.proofs.Wf.{Distinct}
use Rattle.laws.proofs.Basics.{live-below, count-mem}
use Rattle.laws.proofs.Membership.{mem-joined, mem-reverse, mem-reverse-old, distinct-reverse}
use Rattle.laws.proofs.Laid.{mem-tabulate}
use Rattle.walks.proofs.Walkable.{live_of, handle-of, same_index, parent_is, entry-live, list-once}
use Rattle.walks.proofs.Visits.{Branching, VisitingFrom, visiting-none, visiting-none-is, visited-next, visited-next-is, visited-fits, visiting-top, visiting-top-is, visiting-more, visiting-more-is}
use Rattle.compaction.specs.Copies.{tops_below, rebuilt_below}

pub keep_append : {A : Type 0} (p : A → Bool) (l m : List A) → keep p (l ++ m) ≡ keep p l ++ keep p m
keep_append p [] m = refl
keep_append {A} p (x ∷ l) m = go (p x) (keep_append p l m)
  where
    go : (b : Bool) → keep p (l ++ m) ≡ keep p l ++ keep p m → cond b (x ∷ keep p (l ++ m)) (keep p (l ++ m)) ≡ cond b (x ∷ keep p l) (keep p l) ++ keep p m
    go true e = ap (λ (k : List A). x ∷ k) e
    go false e = e

module _ (D : Doc) where
  abbrev pub next : ℕ → List ℕ
  next h = list_at D children h

  -- live, and among children where it has a parent
  abbrev pub Live : ℕ → Type 0
  Live h = (resolves D h ≡ true) × (which_of (kind_at D h) ≡ children)

  -- a node without a parent in the first i slots
  abbrev pub TopBelow : ℕ → ℕ → Type 0
  TopBelow i y = (parent_at D y ≡ None) × (handle_index y < i)

  -- met in this order, from tops in the first i slots; the stack is still to be walked
  pub record Met (i : ℕ) (met stack : List ℕ) : Type 0 where
    pub count : ℕ
    pub visiting : VisitingFrom (λ h. list_at D children h) (λ h. (resolves D h ≡ true) × (which_of (kind_at D h) ≡ children)) (parent_at D) (TopBelow i) count stack
    pub order : visiting.visited ≡ reverse met

  pub met-counted : (i : ℕ) (met stack : List ℕ) (M : Met i met stack) → length met ≡ M.count
  met-counted i met stack M = sym (length-reverse met) ∙ ap length (sym M.order) ∙ M.visiting.counted

  pub met-in : (i : ℕ) (met stack : List ℕ) (M : Met i met stack) (y : ℕ) → Memᴰ y met → Memᴰ y M.visiting.visited
  met-in i met stack M y m = subst (λ (l : List ℕ). Memᴰ y l) (sym M.order) (mem-reverse met m)

  met-out : (i : ℕ) (met stack : List ℕ) (M : Met i met stack) (y : ℕ) → Memᴰ y M.visiting.visited → Memᴰ y met
  met-out i met stack M y m = mem-reverse-old met (subst (λ (l : List ℕ). Memᴰ y l) M.order m)

  pub met-live : (i : ℕ) (met stack : List ℕ) → Met i met stack → (y : ℕ) → Memᴰ y met → Live y
  met-live i met stack M y m = M.visiting.live y (inl (met-in i met stack M y m))

  pub met-once : (i : ℕ) (met stack : List ℕ) → Met i met stack → Distinct met
  met-once i met stack M = subst Distinct (reverse-reverse met) (distinct-reverse (reverse met) (subst Distinct M.order M.visiting.visited-once))

  pub next-live : (i : ℕ) (met : List ℕ) (x : ℕ) (s : List ℕ) → Met i met (x ∷ s) → Live x
  next-live i met x s M = M.visiting.live x (inr (mathlib.Core.List.Memᴰ.head refl))

  pub met-none : Met 0 [] []
  met-none = record { count = 0; visiting = visiting-none next Live (parent_at D) (TopBelow 0); order = visiting-none-is next Live (parent_at D) (TopBelow 0) }

-- ---- from the rules

module _ (D : Doc) (R : Rules D) (few : length D.gens ≤ 65536) where
  branching : (i : ℕ) → Branching (next D) (Live D) (parent_at D) (TopBelow D i)
  branching i = record {
    child = λ x c lx m. (
      (entry-live D R.entries children x c lx.0 m, (R.entries.no_other children (handle_index x) c (live_of D x lx.0) m).2),
      parent_is D R.entries children x c lx.0 m,
      λ t. none-some x (sym t.0 ∙ parent_is D R.entries children x c lx.0 m),
    );
    once = λ x lx. list-once D R.entries children x lx.0;
  }

  pub met-fits : (i : ℕ) (met stack : List ℕ) → Met D i met stack → length met + length stack ≤ length D.gens
  met-fits i met stack M =
      omega (
        arith,
        met-counted D i met stack M,
        visited-fits (next D) (Live D) (parent_at D) (TopBelow D i) handle_index (length D.gens) (λ y l. live-below D (handle_index y) (live_of D y l.0))
            (λ y z a b e. same_index D y z a.0 b.0 e) M.count stack M.visiting,
      )

  -- a node more
  pub met_next : (i : ℕ) (met : List ℕ) (x : ℕ) (s : List ℕ) → Met D i met (x ∷ s) → Met D i (met ++ (x ∷ [])) (list_at D children x ++ s)
  met_next i met x s M = record {
    count = 1 + M.count;
    visiting = visited-next (next D) (Live D) (parent_at D) (TopBelow D i) (branching i) M.count x s M.visiting;
    order =
        visited-next-is (next D) (Live D) (parent_at D) (TopBelow D i) (branching i) M.count x s M.visiting
        ∙ ap (λ (l : List ℕ). x ∷ l) M.order
        ∙ sym (reverse-append met (x ∷ []));
  }

  -- the tree of the next slot
  module _ (i : ℕ) (met : List ℕ) (M : Met D i met []) where
    wider : VisitingFrom (next D) (Live D) (parent_at D) (TopBelow D (suc i)) M.count []
    wider = visiting-more (next D) (Live D) (parent_at D) (TopBelow D i) (TopBelow D (suc i)) (λ y t. (t.0, let h = t.1 in omega arith)) M.count [] M.visiting

    wider-is : wider.visited ≡ M.visiting.visited
    unfolding wider
    wider-is = visiting-more-is (next D) (Live D) (parent_at D) (TopBelow D i) (TopBelow D (suc i)) (λ y t. (t.0, let h = t.1 in omega arith)) M.count [] M.visiting

    pub met-skip : Met D (suc i) met []
    met-skip = record { count = M.count; visiting = wider; order = wider-is ∙ M.order }

    module _ (l : live_slot D i ≡ true) (e : parent_in D i ≡ None) where
      index_is : handle_index (handle_at D i) ≡ i
      index_is = handle_index-word_of (record { index = i; generation = generation_at D i }) (omega (arith, live-below D i l))

      pub top-live : Live D (handle_at D i)
      top-live = (
        and_both (live_slot D (handle_index (handle_at D i))) (eqb (generation_at D (handle_index (handle_at D i))) (handle_generation (handle_at D i)))
            (ap (live_slot D) index_is ∙ l)
            (eq-eqb _ _ (ap (generation_at D) index_is ∙ sym (handle_generation-word_of (record { index = i; generation = generation_at D i }) (omega (arith, live-below D i l))))),
        ap (λ (k : ℕ). which_of (kind_in D k)) index_is ∙ R.parents.detached i l e,
      )

      top-parent : parent_at D (handle_at D i) ≡ None
      top-parent = ap (parent_in D) index_is ∙ e

      top-new : Memᴰ (handle_at D i) wider.visited → ⊥
      top-new m = go (M.visiting.pushed (handle_at D i) (inl (subst (λ (k : List ℕ). Memᴰ (handle_at D i) k) wider-is m)))
        where
          go : TopBelow D i (handle_at D i) ⊎ ((p : ℕ) × Memᴰ p M.visiting.visited × (parent_at D (handle_at D i) ≡ Some p)) → ⊥
          go (inl t) = omega (arith, t.1, index_is)
          go (inr q) = none-some q.0 (sym top-parent ∙ q.2)

      pub met-top : Met D (suc i) met (handle_at D i ∷ [])
      met-top =
          let t : TopBelow D (suc i) (handle_at D i) = (top-parent, omega (arith, index_is)) in
          record {
            count = M.count;
            visiting = visiting-top (next D) (Live D) (parent_at D) (TopBelow D (suc i)) M.count (handle_at D i) wider top-live t top-new;
            order = visiting-top-is (next D) (Live D) (parent_at D) (TopBelow D (suc i)) M.count (handle_at D i) wider top-live t top-new ∙ wider-is ∙ M.order;
          }

  -- the rest of a walk
  pub met-walk : (i f : ℕ) (met s : List ℕ) → Met D i met s → length D.gens ≤ length met + f → Met D i (met ++ walk (λ h. list_at D children h) f s) []
  met-walk i zero met [] M h = subst (λ (l : List ℕ). Met D i l []) (sym (append-nil met)) M
  met-walk i zero met (x ∷ s) M h = absurd (let z = met-fits i met (x ∷ s) M in omega arith)
  met-walk i (suc f) met [] M h = subst (λ (l : List ℕ). Met D i l []) (sym (append-nil met)) M
  met-walk i (suc f) met (x ∷ s) M h =
      subst (λ (l : List ℕ). Met D i l []) (append_assoc met (x ∷ []) (walk (next D) f (next D x ++ s)))
      (met-walk i f (met ++ (x ∷ [])) (next D x ++ s) (met_next i met x s M) (omega (arith, length-append met (x ∷ []))))

  -- the trees of the first slots
  abbrev walk_from : ℕ → List ℕ
  walk_from t = walk (λ h. list_at D children h) (length D.gens) (t ∷ [])

  abbrev live_in : ℕ → List ℕ
  live_in i = cond (live_slot D i) (handle_at D i ∷ []) []

  tops_next : (i : ℕ) → tops_below D (suc i) ≡ tops_below D i ++ keep (λ h. is_none (parent_at D h)) (live_in i)
  tops_next i =
      ap (keep (λ h. is_none (parent_at D h))) (joined-append live_in (tabulate (λ k. k) i) (i ∷ []) ∙ ap (λ (l : List ℕ). joined live_in (tabulate (λ k. k) i) ++ l) (append-nil (live_in i)))
      ∙ keep_append (λ h. is_none (parent_at D h)) (joined live_in (tabulate (λ k. k) i)) (live_in i)

  rebuilt-next : (i : ℕ) → rebuilt_below D (suc i) ≡ rebuilt_below D i ++ joined walk_from (keep (λ h. is_none (parent_at D h)) (live_in i))
  rebuilt-next i = ap (joined walk_from) (tops_next i) ∙ joined-append walk_from (tops_below D i) (keep (λ h. is_none (parent_at D h)) (live_in i))

  module _ (i : ℕ) (small : i < 65536) where
    at-index : handle_index (handle_at D i) ≡ i
    at-index = handle_index-word_of (record { index = i; generation = generation_at D i }) (omega arith)

    pub rebuilt-top : live_slot D i ≡ true → parent_in D i ≡ None → rebuilt_below D (suc i) ≡ rebuilt_below D i ++ walk (λ h. list_at D children h) (length D.gens) (handle_at D i ∷ [])
    rebuilt-top l e =
        let q : is_none (parent_at D (handle_at D i)) ≡ true = ap (λ (k : ℕ). is_none (parent_in D k)) at-index ∙ ap is_none e in
        rebuilt-next i
        ∙ ap (λ (t : Bool). rebuilt_below D i ++ joined walk_from (keep (λ h. is_none (parent_at D h)) (cond t (handle_at D i ∷ []) []))) l
        ∙ ap (λ (t : Bool). rebuilt_below D i ++ joined walk_from (cond t (handle_at D i ∷ []) [])) q
        ∙ ap (λ (k : List ℕ). rebuilt_below D i ++ k) (append-nil (walk_from (handle_at D i)))

    pub rebuilt-skip : (live_slot D i && is_none (parent_in D i)) ≡ false → rebuilt_below D (suc i) ≡ rebuilt_below D i
    rebuilt-skip f = rebuilt-next i ∙ ap (λ (k : List ℕ). rebuilt_below D i ++ joined walk_from k) (go (live_slot D i) f) ∙ append-nil (rebuilt_below D i)
      where
        go : (t : Bool) → (t && is_none (parent_in D i)) ≡ false → keep (λ h. is_none (parent_at D h)) (cond t (handle_at D i ∷ []) []) ≡ []
        go false q = refl
        go true q = ap (λ (t : Bool). cond t (handle_at D i ∷ []) []) (ap (λ (k : ℕ). is_none (parent_in D k)) at-index ∙ q)

  pub met-below : (i : ℕ) → i ≤ length D.gens → Met D i (rebuilt_below D i) []
  met-below zero h = met-none D
  met-below (suc i) h = go (met-below i (omega arith)) (live_slot D i) refl (parent_in D i) refl
    where
      skip : Met D i (rebuilt_below D i) [] → (live_slot D i && is_none (parent_in D i)) ≡ false → Met D (suc i) (rebuilt_below D (suc i)) []
      skip M f = subst (λ (l : List ℕ). Met D (suc i) l []) (sym (rebuilt-skip i (omega arith) f)) (met-skip i (rebuilt_below D i) M)

      go : Met D i (rebuilt_below D i) [] → (t : Bool) → live_slot D i ≡ t → (p : Option ℕ) → parent_in D i ≡ p → Met D (suc i) (rebuilt_below D (suc i)) []
      go M false l p e = skip M (ap (λ (t : Bool). t && is_none (parent_in D i)) l)
      go M true l (Some p) e = skip M (ap (λ (t : Bool). t && is_none (parent_in D i)) l ∙ ap is_none e)
      go M true l None e =
          subst (λ (k : List ℕ). Met D (suc i) k []) (sym (rebuilt-top i (omega arith) l e))
          (met-walk (suc i) (length D.gens) (rebuilt_below D i) (handle_at D i ∷ []) (met-top i (rebuilt_below D i) M l e) (omega arith))

  -- ---- all of them

  pub met_all : Met D (length D.gens) (rebuilt D) []
  met_all = met-below (length D.gens) (omega arith)

  walk_first : (n t : ℕ) → 0 < n → Memᴰ t (walk (λ h. list_at D children h) n (t ∷ []))
  walk_first zero t h = absurd (omega arith)
  walk_first (suc n) t h = mathlib.Core.List.Memᴰ.head refl

  -- every live node that has no parent or stands among children is met
  meets : {i : ℕ} → Ends D i → live_slot D i ≡ true → which_of (kind_in D i) ≡ children → Memᴰ (handle_at D i) (rebuilt D)
  meets {i} (Ends.top e) l c =
      let b = live-below D i l in
      let x : handle_index (handle_at D i) ≡ i = handle_index-word_of (record { index = i; generation = generation_at D i }) (omega arith) in
      mem-joined walk_from (tops_below D (length D.gens))
      (mem-keep (λ h. is_none (parent_at D h)) (joined live_in (tabulate (λ k. k) (length D.gens))) (ap (λ (k : ℕ). is_none (parent_in D k)) x ∙ ap is_none e)
      (mem-joined live_in (tabulate (λ k. k) (length D.gens)) (mem-tabulate (λ k. k) (length D.gens) i b)
      (subst (λ (t : Bool). Memᴰ (handle_at D i) (cond t (handle_at D i ∷ []) [])) (sym l) (mathlib.Core.List.Memᴰ.head refl))))
      (walk_first (length D.gens) (handle_at D i) (omega arith))
  meets {i} (Ends.up p e r) l c =
      let u = R.parents.owner i p l e in
      let k : owns children (kind_at D p) ≡ true = ap (λ (w : Which). owns w (kind_at D p)) (sym c) ∙ u.1 in
      let m : Memᴰ p (rebuilt D) = subst (λ (h : ℕ). Memᴰ h (rebuilt D)) (handle-of D p u.0) (meets r (live_of D p u.0) (container-child (kind_at D p) k)) in
      let one : count_of (eqb (handle_at D i)) (list_at D children p) ≡ 1 = ap (λ (w : Which). count_of (eqb (handle_at D i)) (list_at D w p)) (sym c) ∙ R.entries.one i p l e in
      let q : Memᴰ (handle_at D i) (list_at D children p) = count-mem (handle_at D i) (list_at D children p) (omega arith) in
      last (met_all.visiting.closed p (handle_at D i) (met-in D (length D.gens) (rebuilt D) [] met_all p m) q)
    where
      last : Memᴰ (handle_at D i) met_all.visiting.visited ⊎ Memᴰ (handle_at D i) [] → Memᴰ (handle_at D i) (rebuilt D)
      last (inl m) = met-out D (length D.gens) (rebuilt D) [] met_all (handle_at D i) m
      last (inr m) = absurd (mathlib.Core.List.Memᴰ.not-nil m)

  pub child-met : (i : ℕ) → live_slot D i ≡ true → which_of (kind_in D i) ≡ children → Memᴰ (handle_at D i) (rebuilt D)
  child-met i l c = meets (R.parents_end i l) l c
