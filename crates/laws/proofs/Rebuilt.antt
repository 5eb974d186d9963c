-- What `compact` visits: the handles of the live births that stand in lists of children or have no parent, each once.
-- Assumes nothing.
use Rattle.std.proofs.lemmas.Option.{none-some, same_Some}
use Rattle.std.specs.Prelude.{Option, None, Some}
use mathlib.Core.Path.{◌≡◌, refl, sym, ap, ap₂, ◌∙◌, subst}
use mathlib.Core.Logic.{◌⊎◌, inl, inr}
use mathlib.Core.Bool.{Bool, true, false, cond, false≢true, true≢false}
use mathlib.Core.List.{List, [], ◌∷◌, ◌++◌, map, Memᴰ}
use Prim.Native.Nat.{ℕ}
use lib.ListN.{length}
use Rattle.words.specs.Lists.{joined, keep, tabulate}
use Rattle.records.specs.Handles.{handle_index}
use Rattle.model.specs.Kinds.{Kind, root, element, attribute, text, comment, namespace, instruction, Which, children, which_of, is_container, owns}
use Rattle.model.specs.Doc.{Doc, live_slot, handle_at, live_nodes, parent_at, list_at, is_none, map_option}
use Rattle.model.specs.Edits.{walk, rebuilt}
use Rattle.model.specs.Tree.{Tree}
use Rattle.laws.proofs.Wf.{Distinct, Ends, WF}
use Rattle.laws.proofs.Sim.{Sim}
use Rattle.laws.proofs.Basics.{birth-below, handle-of-live}
use Rattle.laws.proofs.Membership.{mem-joined, mem-joined-cases, distinct-joined}
use Rattle.laws.proofs.Nested.{Nested, nested}
use Rattle.laws.proofs.Climb.{Below}
use Rattle.laws.proofs.Walk.{visit, tall, visited, visit-distinct, visit-head, visit-closed}
use Rattle.laws.proofs.Subtree.{walk-births}
use Rattle.laws.proofs.Order.{joined-births, child-kid, child-once, visited-child}
use Rattle.laws.proofs.Laid.{mem-tabulate, distinct-tabulate}

-- ---- kept entries

module _ {A : Type 0} (p : A → Bool) where
  pub mem-keep : (l : List A) {x : A} → p x ≡ true → Memᴰ x l → Memᴰ x (keep p l)
  mem-keep [] h m = m
  mem-keep (y ∷ l) {x} h m = go (λ q. mem-keep l h q) (p y) refl (mathlib.Core.List.Memᴰ.cases_cons m)
    where
      go : (Memᴰ x l → Memᴰ x (keep p l)) → (b : Bool) → p y ≡ b → (x ≡ y) ⊎ Memᴰ x l → Memᴰ x (cond b (y ∷ keep p l) (keep p l))
      go ih true e (inl q) = mathlib.Core.List.Memᴰ.head q
      go ih true e (inr q) = mathlib.Core.List.Memᴰ.tail (ih q)
      go ih false e (inl q) = absurd (false≢true (sym e ∙ ap p (sym q) ∙ h))
      go ih false e (inr q) = ih q

  pub mem-keep-old : (l : List A) {x : A} → Memᴰ x (keep p l) → Memᴰ x l × (p x ≡ true)
  mem-keep-old [] m = absurd (mathlib.Core.List.Memᴰ.not-nil m)
  mem-keep-old (y ∷ l) {x} m = go (λ q. mem-keep-old l q) (p y) refl m
    where
      tail : Memᴰ x l × (p x ≡ true) → Memᴰ x (y ∷ l) × (p x ≡ true)
      tail o = (mathlib.Core.List.Memᴰ.tail o.0, o.1)

      first : (Memᴰ x (keep p l) → Memᴰ x l × (p x ≡ true)) → p y ≡ true → (x ≡ y) ⊎ Memᴰ x (keep p l) → Memᴰ x (y ∷ l) × (p x ≡ true)
      first ih e (inl q) = (mathlib.Core.List.Memᴰ.head q, ap p q ∙ e)
      first ih e (inr q) = tail (ih q)

      go : (Memᴰ x (keep p l) → Memᴰ x l × (p x ≡ true)) → (b : Bool) → p y ≡ b → Memᴰ x (cond b (y ∷ keep p l) (keep p l)) → Memᴰ x (y ∷ l) × (p x ≡ true)
      go ih true e q = first ih e (mathlib.Core.List.Memᴰ.cases_cons q)
      go ih false e q = tail (ih q)

pub distinct-keep : (p : ℕ → Bool) (l : List ℕ) → Distinct l → Distinct (keep p l)
distinct-keep p [] u = tt
distinct-keep p (y ∷ l) u = go (distinct-keep p l u.1) (p y)
  where
    go : Distinct (keep p l) → (b : Bool) → Distinct (cond b (y ∷ keep p l) (keep p l))
    go ih true = ((λ m. u.0 (mem-keep-old p l m).0), ih)
    go ih false = ih

pub keep-births : (hs : ℕ → ℕ) (p q : ℕ → Bool) (l : List ℕ) → ((x : ℕ) → Memᴰ x l → p (hs x) ≡ q x) → keep p (map hs l) ≡ map hs (keep q l)
keep-births hs p q [] h = refl
keep-births hs p q (x ∷ l) h = go (q x) (h x (mathlib.Core.List.Memᴰ.head refl)) (keep-births hs p q l (λ y m. h y (mathlib.Core.List.Memᴰ.tail m)))
  where
    go : (b : Bool) → p (hs x) ≡ b → keep p (map hs l) ≡ map hs (keep q l) → cond (p (hs x)) (hs x ∷ keep p (map hs l)) (keep p (map hs l)) ≡ map hs (cond b (x ∷ keep q l) (keep q l))
    go true e ih = rw e (ap (λ (k : List ℕ). hs x ∷ k) ih)
    go false e ih = rw e ih

-- ---- the live nodes, in slot order

-- the births whose handles stand in a list, found in these slots
pub record BirthsIn (d : Doc) (t : Tree) (hs : ℕ → ℕ) (slots handles : List ℕ) : Type 0 where
  pub births : List ℕ
  pub called : handles ≡ map hs births
  pub once : Distinct births
  pub live : (b : ℕ) → Memᴰ b births → t.live b ≡ true
  pub slot : (b : ℕ) → Memᴰ b births → Memᴰ (handle_index (hs b)) slots
  pub every : (b : ℕ) → t.live b ≡ true → Memᴰ (handle_index (hs b)) slots → Memᴰ b births

module _ {d : Doc} {t : Tree} {hs : ℕ → ℕ} (S : Sim d t hs) where
  abbrev handle_in : ℕ → List ℕ
  handle_in i = cond (live_slot d i) (handle_at d i ∷ []) []

  births-in : (l : List ℕ) → Distinct l → BirthsIn d t hs l (joined handle_in l)
  births-in [] u =
      record {
        births = [];
        called = refl;
        once = tt;
        live = λ b m. absurd (mathlib.Core.List.Memᴰ.not-nil m);
        slot = λ b m. absurd (mathlib.Core.List.Memᴰ.not-nil m);
        every = λ b lb m. absurd (mathlib.Core.List.Memᴰ.not-nil m);
      }
  births-in (i ∷ l) u = go (births-in l u.1) (live_slot d i) refl
    where
      go : BirthsIn d t hs l (joined handle_in l) → (q : Bool) → live_slot d i ≡ q → BirthsIn d t hs (i ∷ l) (cond q (handle_at d i ∷ []) [] ++ joined handle_in l)
      go ih true e =
          record {
            births = o.0 ∷ ih.births;
            called = ap₂ (λ (h : ℕ) (k : List ℕ). h ∷ k) (ap (handle_at d) (sym o.2) ∙ handle-of-live d t hs S o.0 o.1) ih.called;
            once = ((λ m. u.0 (subst (λ (j : ℕ). Memᴰ j l) o.2 (ih.slot o.0 m))), ih.once);
            live = λ b m. live b (mathlib.Core.List.Memᴰ.cases_cons m);
            slot = λ b m. slot b (mathlib.Core.List.Memᴰ.cases_cons m);
            every = λ b lb m. every b lb (mathlib.Core.List.Memᴰ.cases_cons m);
          }
        where
          o : (b : ℕ) × (t.live b ≡ true) × (handle_index (hs b) ≡ i)
          o = S.owner i e

          live : (b : ℕ) → (b ≡ o.0) ⊎ Memᴰ b ih.births → t.live b ≡ true
          live b (inl q) = ap t.live q ∙ o.1
          live b (inr m) = ih.live b m

          slot : (b : ℕ) → (b ≡ o.0) ⊎ Memᴰ b ih.births → Memᴰ (handle_index (hs b)) (i ∷ l)
          slot b (inl q) = mathlib.Core.List.Memᴰ.head (ap (λ (x : ℕ). handle_index (hs x)) q ∙ o.2)
          slot b (inr m) = mathlib.Core.List.Memᴰ.tail (ih.slot b m)

          every : (b : ℕ) → t.live b ≡ true → (handle_index (hs b) ≡ i) ⊎ Memᴰ (handle_index (hs b)) l → Memᴰ b (o.0 ∷ ih.births)
          every b lb (inl q) = mathlib.Core.List.Memᴰ.head (S.inj b o.0 lb o.1 (q ∙ sym o.2))
          every b lb (inr m) = mathlib.Core.List.Memᴰ.tail (ih.every b lb m)
      go ih false e =
          record {
            births = ih.births;
            called = ih.called;
            once = ih.once;
            live = ih.live;
            slot = λ b m. mathlib.Core.List.Memᴰ.tail (ih.slot b m);
            every = λ b lb m. every b lb (mathlib.Core.List.Memᴰ.cases_cons m);
          }
        where
          every : (b : ℕ) → t.live b ≡ true → (handle_index (hs b) ≡ i) ⊎ Memᴰ (handle_index (hs b)) l → Memᴰ b ih.births
          every b lb (inl q) = absurd (true≢false (sym (S.lives b lb) ∙ ap (live_slot d) q ∙ e))
          every b lb (inr m) = ih.every b lb m

  -- the live nodes of the document are the live births
  pub live-births : BirthsIn d t hs (tabulate (λ i. i) (length d.gens)) (live_nodes d)
  live-births = births-in (tabulate (λ i. i) (length d.gens)) (distinct-tabulate (λ i. i) (λ i j e. e) (length d.gens))

  pub live-birth : (b : ℕ) → t.live b ≡ true → Memᴰ b live-births.births
  live-birth b lb = live-births.every b lb (mem-tabulate (λ i. i) (length d.gens) (handle_index (hs b)) (birth-below d t hs S b lb))

-- ---- below parentless nodes

-- of two nodes without a parent that are above y there is one
top_unique : {parent : ℕ → Option ℕ} {k j y : ℕ} → Below parent k y → Below parent j y → parent k ≡ None → parent j ≡ None → k ≡ j
top_unique (Below.here e) (Below.here f) tk tj = sym e ∙ f
top_unique {parent} (Below.here e) (Below.down p f r) tk tj = absurd (none-some p (sym tk ∙ ap parent (sym e) ∙ f))
top_unique {parent} (Below.down p f r) (Below.here e) tk tj = absurd (none-some p (sym tj ∙ ap parent (sym e) ∙ f))
top_unique {parent} {k} {j} (Below.down p f r) (Below.down q g s) tk tj =
    top_unique r (subst (λ (z : ℕ). Below parent j z) (same_Some q p (sym g ∙ f)) s) tk tj

pub container-child : {N T : Type 0} (k : Kind N T) → is_container k ≡ true → which_of k ≡ children
container-child root e = refl
container-child (element n) e = refl
container-child (attribute n v) e = absurd (false≢true e)
container-child (text t) e = refl
container-child (comment t) e = refl
container-child (namespace p u) e = absurd (false≢true e)
container-child (instruction t d) e = refl

is_none-map : (hs : ℕ → ℕ) (o : Option ℕ) → is_none (map_option hs o) ≡ is_none o
is_none-map hs None = refl
is_none-map hs (Some p) = refl

none_of : (o : Option ℕ) → is_none o ≡ true → o ≡ None
none_of None e = refl
none_of (Some p) e = absurd (false≢true e)

module _ {d : Doc} {t : Tree} {hs : ℕ → ℕ} (S : Sim d t hs) (W : WF t) where
  N : Nested t
  N = nested W

  abbrev top_births : List ℕ
  top_births = keep (λ b. is_none (t.parent b)) (live-births S).births

  top-facts : (b : ℕ) → Memᴰ b top_births → (t.live b ≡ true) × (t.parent b ≡ None)
  top-facts b m =
      let o = mem-keep-old (λ b. is_none (t.parent b)) (live-births S).births m in
      ((live-births S).live b o.0, none_of (t.parent b) o.1)

  -- the births that are met
  pub met : List ℕ
  met = joined (λ b. visit (t.lists children) t.births b) top_births

  pub rebuilt-births : rebuilt d ≡ map hs met
  unfolding met
  rebuilt-births =
      ap (joined (λ top. walk (λ h. list_at d children h) (length d.gens) (top ∷ [])))
      (ap (keep (λ h. is_none (parent_at d h))) (live-births S).called
      ∙ keep-births hs (λ h. is_none (parent_at d h)) (λ b. is_none (t.parent b)) (live-births S).births
      (λ x m. ap is_none (S.parent x ((live-births S).live x m)) ∙ is_none-map hs (t.parent x)))
      ∙ joined-births hs (λ top. walk (λ h. list_at d children h) (length d.gens) (top ∷ [])) (λ b. visit (t.lists children) t.births b) top_births
      (λ b m. walk-births S N (λ h. list_at d children h) (t.lists children) (λ x lx. S.lists children x lx) (child-kid N) (child-once N) b (top-facts b m).0)

  met_of : (y : ℕ) → Memᴰ y met → (b : ℕ) × Memᴰ b top_births × Memᴰ y (visit (t.lists children) t.births b)
  unfolding met
  met_of y m = mem-joined-cases (λ b. visit (t.lists children) t.births b) top_births m

  pub met-live : (y : ℕ) → Memᴰ y met → t.live y ≡ true
  met-live y m = let o = met_of y m in (visited N (t.lists children) (child-kid N) t.births o.0 (top-facts o.0 o.1).0 y o.2).0

  pub met-child : (y : ℕ) → Memᴰ y met → which_of (t.kind y) ≡ children
  met-child y m =
      let o = met_of y m in
      let f = top-facts o.0 o.1 in
      go (W.detached o.0 f.0 f.1) (visited-child N t.births o.0 y f.0 o.2)
    where
      go : {b : ℕ} → which_of (t.kind b) ≡ children → (y ≡ b) ⊎ (which_of (t.kind y) ≡ children) → which_of (t.kind y) ≡ children
      go w (inl e) = ap (λ (z : ℕ). which_of (t.kind z)) e ∙ w
      go w (inr e) = e

  pub met-once : Distinct met
  unfolding met
  met-once =
      distinct-joined (λ b. visit (t.lists children) t.births b) top_births
      (distinct-keep (λ b. is_none (t.parent b)) (live-births S).births (live-births S).once)
      (λ b m. visit-distinct N (t.lists children) (child-kid N) (child-once N) t.births b (top-facts b m).0)
      (λ k j y mk mj p q.
      let fk = top-facts k mk in
      let fj = top-facts j mj in
      top_unique (visited N (t.lists children) (child-kid N) t.births k fk.0 y p).1
      (visited N (t.lists children) (child-kid N) t.births j fj.0 y q).1 fk.1 fj.1)

  meets : {y : ℕ} → Ends t.parent y → t.live y ≡ true → which_of (t.kind y) ≡ children → Memᴰ y met
  unfolding met
  meets {y} (Ends.top e) ly w =
      mem-joined (λ b. visit (t.lists children) t.births b) top_births
      (mem-keep (λ b. is_none (t.parent b)) (live-births S).births (ap is_none e) (live-birth S y ly))
      (visit-head (t.lists children) t.births y (tall N (t.lists children) (child-kid N) y ly))
  meets {y} (Ends.up p e r) ly w =
      let u = W.upward y p ly e in
      let c : owns children (t.kind p) ≡ true = ap (λ (v : Which). owns v (t.kind p)) (sym w) ∙ u.1 in
      let m : Memᴰ y (t.lists children p) = subst (λ (v : Which). Memᴰ y (t.lists v p)) w u.2 in
      let o = met_of p (meets r u.0 (container-child (t.kind p) c)) in
      mem-joined (λ b. visit (t.lists children) t.births b) top_births o.1
      (visit-closed (t.lists children) t.births o.0 (tall N (t.lists children) (child-kid N) o.0 (top-facts o.0 o.1).0) p y o.2 m)

  pub child-met : (y : ℕ) → t.live y ≡ true → which_of (t.kind y) ≡ children → Memᴰ y met
  child-met y ly w = meets (W.ends y ly) ly w
