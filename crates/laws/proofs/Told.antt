-- The handles of the births can be told for every list of calls: each birth's is the one that its call shows, and a step of the plain
-- tree looks only at the handles of the births so far.
-- Assumes nothing.
use Rattle.std.specs.Prelude.{Option, None, Some}
use mathlib.Core.Path.{◌≡◌, refl, sym, ap, ap₂, ◌∙◌, subst}
use mathlib.Core.Bool.{Bool, true, false, cond, ◌&&◌}
use mathlib.Core.List.{List, [], ◌∷◌}
use Prim.Native.Nat.{ℕ, zero, suc, ◌≤◌, ◌<◌}
use native.Mathlib.Omega.{arith}
use lib.Dec.{eqb}
use Rattle.words.specs.Lists.{find}
use borrow.Author.Tests.{eq-eqb, ne_eqb}
use Rattle.names.specs.Table.{Name, name}
use Rattle.model.specs.Kinds.{Kind, element, attribute, text, comment, namespace, instruction, Which, children, attributes, namespaces}
use Rattle.model.specs.Doc.{Doc, Limits, is_some, fresh, root_handle}
use Rattle.model.specs.Checks.{check_append_element, check_append_text, check_append_comment, check_append_pi, check_set_text, check_set_attribute, check_remove_attribute, check_declare_namespace, check_remove, check_detach, check_move}
use Rattle.model.specs.Calls.{done, made, other_than, Call, append-element, append-text, append-comment, append-pi, set-text, set-attribute, remove-attribute, declare-namespace, remove, detach, reparent, insert-at, document-order, compact, root-of, kind-of, parent-of, children-of, root-element, is-element, name_of, attribute-nodes, namespace-nodes, nodes, order-key}
use Rattle.model.specs.Calls as calls
use Rattle.model.specs.Tree.{Tree, TreeAnswer, Out, answers, appends, replaced, view, root_element, has_name, has_prefix, under_root, above, move_to, seed, update, live_below, means, birth, guarded, appended, moved, removed, unhook, unlink_from, set_list, set_parent, set_kind, set_current, unlink, born, gone, set_attribute_found, declare_namespace_found, remove_attribute_found}
use Rattle.model.specs.Tree as tree
use Rattle.laws.specs.Claim.{handle_told, no_step, tree_after, Tells}

-- equal handles for the first n births
abbrev Same : ℕ → (ℕ → ℕ) → (ℕ → ℕ) → Type 0
Same n hs gs = (b : ℕ) → b < n → hs b ≡ gs b

-- ---- a step looks only at the handles of the births so far

live_below-same : (live : ℕ → Bool) (hs gs : ℕ → ℕ) (h n : ℕ) → Same n hs gs → live_below live hs h n ≡ live_below live gs h n
live_below-same live hs gs h zero s = refl
live_below-same live hs gs h (suc n) s =
    ap₂ (λ (g : ℕ) (r : Option ℕ). cond (live n && eqb g h) (Some n) r)
    (s n (omega arith))
    (live_below-same live hs gs h n (λ b l. s b (omega arith)))

module _ (t : Tree) (hs gs : ℕ → ℕ) (s : Same t.births hs gs) where
  means-same : (h : ℕ) → means t hs h ≡ means t gs h
  means-same h = live_below-same t.live hs gs h t.births s

  pub step_same : (c : Call) → tree.step c hs t ≡ tree.step c gs t
  step_same (append-element p ns local) = rw (means-same p)
  step_same (append-text p x) = rw (means-same p)
  step_same (append-comment p x) = rw (means-same p)
  step_same (append-pi p target content) = rw (means-same p)
  step_same (set-text h x) = rw (means-same h)
  step_same (set-attribute e ns local value) = rw (means-same e)
  step_same (remove-attribute e ns local) = rw (means-same e)
  step_same (declare-namespace e prefix uri) = rw (means-same e)
  step_same (remove h) = rw (means-same h)
  step_same (detach h) = rw (means-same h)
  step_same (reparent c p) = rw (means-same c, means-same p)
  step_same (insert-at p i c) = rw (means-same c, means-same p)
  step_same document-order = refl
  step_same compact = refl
  step_same root-of = refl
  step_same (kind-of h) = rw (means-same h)
  step_same (parent-of h) = rw (means-same h)
  step_same (children-of h) = rw (means-same h)
  step_same root-element = refl
  step_same (is-element h) = rw (means-same h)
  step_same (name_of n) = refl
  step_same (attribute-nodes h) = rw (means-same h)
  step_same (namespace-nodes h) = rw (means-same h)
  step_same nodes = refl
  step_same (order-key h) = rw (means-same h)

  after_same : (c : Call) (d : Doc) → tree_after hs c d t ≡ tree_after gs c d t
  after_same c d = ap (λ (o : Out). cond (no_step (calls.step c d).answer) t o.tree) (step_same c)

-- ---- births are never fewer

abbrev Grows : Tree → Out → Type 0
Grows t o = t.births ≤ o.tree.births

guarded-grows : (n : ℕ) (t : Tree) (o : Out) → Grows t o → Grows t (guarded n t o)
guarded-grows zero t o h = h
guarded-grows (suc n) t o h = omega arith

guarded-keeps : (n : ℕ) (t u : Tree) (a : TreeAnswer) → u.births ≡ t.births → Grows t (guarded n t (answers u a))
guarded-keeps n t u a e = guarded-grows n t (answers u a) (omega arith)

births-unlink_from : (p : Option ℕ) (t : Tree) (b : ℕ) → (unlink_from p t b).births ≡ t.births
unfolding set_list
births-unlink_from None t b = refl
births-unlink_from (Some p) t b = refl

births-unhook : (t : Tree) (b : ℕ) → (unhook t b).births ≡ t.births
unfolding set_parent unlink
births-unhook t b = births-unlink_from (t.parent b) t b

births-removed : (t : Tree) (b : ℕ) → (removed t b).births ≡ t.births
unfolding gone
births-removed t b = births-unhook t b

births-moved : (t : Tree) (p : ℕ) (at : Option ℕ) (c : ℕ) → (moved t p at c).births ≡ t.births
unfolding set_list set_parent
births-moved t p at c = births-unhook t c

births-appended : (t : Tree) (w : Which) (p : ℕ) (k : Kind Name (List ℕ)) → (appended t w p k).births ≡ suc t.births
unfolding set_list set_parent born
births-appended t w p k = refl

appends-grows : (check : ℕ) (t : Tree) (p : ℕ) (k : Kind Name (List ℕ)) → Grows t (appends check t p k)
appends-grows check t p k =
    guarded-grows check t (answers (appended t children p k) (made t.births)) (omega (arith, births-appended t children p k))

set-attribute-grows : (f : Option ℕ) (t : Tree) (e : ℕ) (n : Name) (value : List ℕ) → Grows t (set_attribute_found f t e n value)
unfolding set_kind
set-attribute-grows None t e n value = omega (arith, births-appended t attributes e (attribute n value))
set-attribute-grows (Some a) t e n value = omega arith

declare-namespace-grows : (f : Option ℕ) (t : Tree) (e : ℕ) (prefix uri : List ℕ) → Grows t (declare_namespace_found f t e prefix uri)
unfolding set_kind
declare-namespace-grows None t e prefix uri = omega (arith, births-appended t namespaces e (namespace prefix uri))
declare-namespace-grows (Some a) t e prefix uri = omega arith

remove-attribute-grows : (f : Option ℕ) (t : Tree) → Grows t (remove_attribute_found f t)
remove-attribute-grows None t = omega arith
remove-attribute-grows (Some a) t = omega (arith, births-removed t a)

move-grows : (t : Tree) (p at c : Option ℕ) → Grows t (move_to t p at c)
move-grows t p at c =
    guarded-keeps
    (check_move (view t c) (view t p) (above t.births t.parent (birth c) (birth p)) (other_than (root_element t) c))
    t
    (moved t (birth p) at (birth c))
    done
    (births-moved t (birth p) at (birth c))

step-grows : (c : Call) (hs : ℕ → ℕ) (t : Tree) → Grows t (tree.step c hs t)
unfolding set_kind set_current
step-grows (append-element p ns local) hs t =
    let b = means t hs p in
    appends-grows (check_append_element ns local (view t b) (other_than (root_element t) None)) t (birth b) (element (name ns local))
step-grows (append-text p s) hs t = let b = means t hs p in appends-grows (check_append_text s (view t b)) t (birth b) (text s)
step-grows (append-comment p s) hs t = let b = means t hs p in appends-grows (check_append_comment s (view t b)) t (birth b) (comment s)
step-grows (append-pi p target content) hs t =
    let b = means t hs p in
    appends-grows (check_append_pi target content (view t b)) t (birth b) (instruction target content)
step-grows (set-text h s) hs t =
    let b = means t hs h in
    guarded-keeps (check_set_text s (view t b) (under_root t b)) t (replaced t (birth b) s) done refl
step-grows (set-attribute e ns local value) hs t =
    let b = means t hs e in
    let found = find (has_name t (name ns local)) (t.lists attributes (birth b)) in
    guarded-grows
    (check_set_attribute ns local value (view t b) (is_some found))
    t
    (set_attribute_found found t (birth b) (name ns local) value)
    (set-attribute-grows found t (birth b) (name ns local) value)
step-grows (remove-attribute e ns local) hs t =
    let b = means t hs e in
    let found = find (has_name t (name ns local)) (t.lists attributes (birth b)) in
    guarded-grows (check_remove_attribute ns local (view t b)) t (remove_attribute_found found t) (remove-attribute-grows found t)
step-grows (declare-namespace e prefix uri) hs t =
    let b = means t hs e in
    let found = find (has_prefix t prefix) (t.lists namespaces (birth b)) in
    guarded-grows
    (check_declare_namespace prefix uri (view t b))
    t
    (declare_namespace_found found t (birth b) prefix uri)
    (declare-namespace-grows found t (birth b) prefix uri)
step-grows (remove h) hs t =
    let b = means t hs h in
    guarded-keeps (check_remove (view t b)) t (removed t (birth b)) done (births-removed t (birth b))
step-grows (detach h) hs t =
    let b = means t hs h in
    guarded-keeps (check_detach (view t b)) t (unhook t (birth b)) done (births-unhook t (birth b))
step-grows (reparent c p) hs t = move-grows t (means t hs p) None (means t hs c)
step-grows (insert-at p i c) hs t = move-grows t (means t hs p) (Some i) (means t hs c)
step-grows document-order hs t = omega arith
step-grows compact hs t = omega arith
step-grows root-of hs t = omega arith
step-grows (kind-of h) hs t = omega arith
step-grows (parent-of h) hs t = omega arith
step-grows (children-of h) hs t = omega arith
step-grows root-element hs t = omega arith
step-grows (is-element h) hs t = omega arith
step-grows (name_of n) hs t = omega arith
step-grows (attribute-nodes h) hs t = omega arith
step-grows (namespace-nodes h) hs t = omega arith
step-grows nodes hs t = omega arith
step-grows (order-key h) hs t = omega arith

after-grows : (c : Call) (hs : ℕ → ℕ) (d : Doc) (t : Tree) → t.births ≤ (tree_after hs c d t).births
after-grows c hs d t = go (no_step (calls.step c d).answer)
  where
    go : (full : Bool) → t.births ≤ (cond full t (tree.step c hs t).tree).births
    go true = omega arith
    go false = step-grows c hs t

-- ---- the handles along the run

-- the handles so far, and that of the next birth
abbrev next : (ℕ → ℕ) → Call → Doc → Tree → ℕ → ℕ
next hs c d t = update hs t.births (handle_told c (calls.step c d))

abbrev told_from : (ℕ → ℕ) → List Call → Doc → Tree → ℕ → ℕ
told_from hs [] d t = hs
told_from hs (c ∷ cs) d t = told_from (next hs c d t) cs (calls.step c d).doc (tree_after hs c d t)

told-keeps : (hs : ℕ → ℕ) (cs : List Call) (d : Doc) (t : Tree) → Same t.births (told_from hs cs d t) hs
told-keeps hs [] d t b l = refl
told-keeps hs (c ∷ cs) d t b l =
    told-keeps (next hs c d t) cs (calls.step c d).doc (tree_after hs c d t) b (omega (arith, after-grows c hs d t))
    ∙ ap (λ (q : Bool). cond q (handle_told c (calls.step c d)) (hs b)) (ne_eqb b t.births (omega arith))

told-tells : (hs : ℕ → ℕ) (cs : List Call) (d : Doc) (t : Tree) → Tells (told_from hs cs d t) cs d t
told-tells hs [] d t = tt
told-tells hs (c ∷ cs) d t =
    let gs = told_from hs (c ∷ cs) d t in
    let e : tree_after gs c d t ≡ tree_after hs c d t = after_same t gs hs (told-keeps hs (c ∷ cs) d t) c d in (
      (λ l. told-keeps (next hs c d t) cs (calls.step c d).doc (tree_after hs c d t) t.births (subst (λ (u : Tree). t.births < u.births) e l)
          ∙ ap (λ (q : Bool). cond q (handle_told c (calls.step c d)) (hs t.births)) (eq-eqb t.births t.births refl)),
      subst (λ (u : Tree). Tells gs cs (calls.step c d).doc u) (sym e) (told-tells (next hs c d t) cs (calls.step c d).doc (tree_after hs c d t)),
    )

-- Demand 3's `told`.
pub told : (l : Limits) (cs : List Call) → (hs : ℕ → ℕ) × (hs 0 ≡ root_handle) × Tells hs cs (fresh l) seed
told l cs =
    let first : ℕ → ℕ = λ b. root_handle in
    (told_from first cs (fresh l) seed, told-keeps first cs (fresh l) seed 0 (omega arith), told-tells first cs (fresh l) seed)
