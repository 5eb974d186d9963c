-- What a walk lists is the document order with attributes and namespaces left out.
-- Assumes nothing.
use mathlib.Core.Path.{◌≡◌, refl, ap, ap₂, ◌∙◌}
use mathlib.Core.Bool.{Bool, true, false, cond}
use mathlib.Core.List.{List, [], ◌∷◌, ◌++◌, Memᴰ}
use Prim.Native.Nat.{ℕ, zero, suc}
use Rattle.words.specs.Lists.{joined, keep}
use Rattle.model.specs.Kinds.{Which, children, attributes, namespaces, same_which, which_of}
use Rattle.model.specs.Tree.{Tree, in_order}
use Rattle.laws.proofs.Wf.{WF}
use Rattle.descendants.specs.Walking.{below, descendants}

module _ {A : Type 0} (p : A → Bool) where
  pub keep_append : (l m : List A) → keep p (l ++ m) ≡ keep p l ++ keep p m
  keep_append [] m = refl
  keep_append (x ∷ l) m = go (keep_append l m) (p x)
    where
      go : keep p (l ++ m) ≡ keep p l ++ keep p m → (b : Bool) → cond b (x ∷ keep p (l ++ m)) (keep p (l ++ m)) ≡ cond b (x ∷ keep p l) (keep p l) ++ keep p m
      go ih true = ap (λ (z : List A). x ∷ z) ih
      go ih false = ih

  pub keep-none : (l : List A) → ((x : A) → Memᴰ x l → p x ≡ false) → keep p l ≡ []
  keep-none [] h = refl
  keep-none (x ∷ l) h = rw (h x (Memᴰ.head refl)) (keep-none l (λ y m. h y (Memᴰ.tail m)))

  pub keep-joined : (f g : A → List A) (l : List A) → ((y : A) → Memᴰ y l → keep p (f y) ≡ g y) → keep p (joined f l) ≡ joined g l
  keep-joined f g [] h = refl
  keep-joined f g (y ∷ l) h =
      keep_append (f y) (joined f l) ∙ ap₂ (λ (a b : List A). a ++ b) (h y (Memᴰ.head refl)) (keep-joined f g l (λ z m. h z (Memᴰ.tail m)))

joined-nothing : (l : List ℕ) → joined {A = ℕ} (λ (y : ℕ). []) l ≡ []
joined-nothing [] = refl
joined-nothing (y ∷ l) = joined-nothing l

module _ {t : Tree} (W : WF t) where
  abbrev pub child : ℕ → Bool
  child x = same_which (which_of (t.kind x)) children

  of : (w : Which) (x y : ℕ) → t.live x ≡ true → Memᴰ y (t.lists w x) → child y ≡ same_which w children
  of w x y lx m = ap (λ (v : Which). same_which v children) (W.downward w x y lx m).2

  -- what is behind a node in the order, with what is no child left out, is what its children give
  behind-it : (f x : ℕ) → t.live x ≡ true → (rest : List ℕ) → keep child (joined (λ y. in_order f t.lists y) (t.lists children x)) ≡ rest
      → keep child (t.lists namespaces x ++ (t.lists attributes x ++ joined (λ y. in_order f t.lists y) (t.lists children x))) ≡ rest
  behind-it f x lx rest e =
      let j : List ℕ = joined (λ y. in_order f t.lists y) (t.lists children x) in
      keep_append child (t.lists namespaces x) (t.lists attributes x ++ j)
      ∙ ap (λ (l : List ℕ). l ++ keep child (t.lists attributes x ++ j)) (keep-none child (t.lists namespaces x) (λ y m. of namespaces x y lx m))
      ∙ keep_append child (t.lists attributes x) j
      ∙ ap (λ (l : List ℕ). l ++ keep child j) (keep-none child (t.lists attributes x) (λ y m. of attributes x y lx m))
      ∙ e

  pub in-order : (f x : ℕ) → t.live x ≡ true → which_of (t.kind x) ≡ children → keep child (in_order (suc f) t.lists x) ≡ x ∷ below f (t.lists children) x
  in-order zero x lx c =
      rw c (ap (λ (l : List ℕ). x ∷ l) (behind-it zero x lx [] (ap (keep child) (joined-nothing (t.lists children x)))))
  in-order (suc f) x lx c =
      rw c (ap (λ (l : List ℕ). x ∷ l)
      (behind-it (suc f) x lx (below (suc f) (t.lists children) x)
      (keep-joined child (λ y. in_order (suc f) t.lists y) (λ y. y ∷ below f (t.lists children) y) (t.lists children x)
      (λ y m. let o = W.downward children x y lx m in in-order f y o.0 o.2))))

  -- "in document order without attributes and namespaces"
  pub ordered : (b : ℕ) → t.live b ≡ true → which_of (t.kind b) ≡ children → keep child (in_order (suc t.births) t.lists b) ≡ b ∷ descendants t b
  ordered b lb c = in-order t.births b lb c
