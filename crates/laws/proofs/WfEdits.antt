-- What the calls do to the plain tree keeps its rules.
-- Assumes nothing.
use Rattle.std.proofs.lemmas.Option.{none-some, same_Some}
use Rattle.std.specs.Prelude.{Option, None, Some}
use mathlib.Core.Path.{◌≡◌, refl, sym, ap, ◌∙◌, subst}
use mathlib.Core.Logic.{◌≢◌}
use mathlib.Core.Bool.{Bool, true, false, not, ◌&&◌, true≢false, false≢true}
use mathlib.Core.List.{List, [], Memᴰ}
use Prim.Native.Nat.{ℕ}
use native.Mathlib.Omega.{arith}
use native.Mathlib.Decide.{ℕ_discrete}
use borrow.Author.Tests.{eqb-true}
use lib.Dec.{eqb}
use lib.ListN.{length}
use Rattle.words.proofs.Tests.{and_left, and_right, and_both}
use Rattle.names.specs.Table.{Name}
use Rattle.model.specs.Kinds.{Kind, root, element, attribute, text, comment, namespace, instruction, Which, children, attributes, namespaces, which_of, is_container, is_element, is_root, owns, child_kind, with_text}
use Rattle.model.specs.Doc.{or_else}
use Rattle.model.specs.Calls.{other_than}
use Rattle.model.specs.Tree.{Tree, seed, update, above, set_list, set_parent, set_kind, set_current, born, unhook, attach, gone, removed, appended, moved, replaced, root_element}
use Rattle.laws.proofs.Wf.{Ends, Clear, WF}
use Rattle.laws.proofs.Basics.{update_same, update_other}
use Rattle.laws.proofs.Nested.{Nested, nested, well-formed}
use Rattle.laws.proofs.Membership.{find_none, find-some}
use Rattle.laws.proofs.Climb.{above-clear, clear_above}
use Rattle.laws.proofs.Columns.{clear-update}
use Rattle.laws.proofs.NestedEdits.{NoRootElement, nested-born, nested-attach}
use Rattle.laws.proofs.Unhook.{nested-unhook, unhook-live, unhook-kind, unhook-parent, unhook-parentless, unhooked}

pub wf-seed : WF seed
wf-seed = record {
  root_kind = refl;
  root_parent = refl;
  root_live = refl;
  root_only = λ b lb _. eqb-true b 0 lb;
  counted = λ b lb. let e = eqb-true b 0 lb in omega arith;
  upward = λ b p lb e. absurd (none-some p e);
  detached = λ b lb e. refl;
  downward = λ w p b lp m. absurd (mathlib.Core.List.Memᴰ.not-nil m);
  once = λ w p lp. tt;
  ends = λ b lb. Ends.top refl;
  one_element = λ a b ma. absurd (mathlib.Core.List.Memᴰ.not-nil ma);
}

pub wf-current : {t : Tree} → WF t → WF (set_current t)
unfolding set_current
wf-current W = record {
  root_kind = W.root_kind;
  root_parent = W.root_parent;
  root_live = W.root_live;
  root_only = W.root_only;
  counted = W.counted;
  upward = W.upward;
  detached = W.detached;
  downward = W.downward;
  once = W.once;
  ends = W.ends;
  one_element = W.one_element;
}

-- ---- a replaced text

-- what does not look at the replaceable text
with_text-keeps : {N T A : Type 0} (f : Kind N T → A) → ((n : N) (u v : T) → f (attribute n u) ≡ f (attribute n v)) → ((u v : T) → f (text u) ≡ f (text v))
    → ((p u v : T) → f (namespace p u) ≡ f (namespace p v)) → (k : Kind N T) (s : T) → f (with_text k s) ≡ f k
with_text-keeps f a t n root s = refl
with_text-keeps f a t n (element m) s = refl
with_text-keeps f a t n (attribute m v) s = a m s v
with_text-keeps f a t n (text v) s = t s v
with_text-keeps f a t n (comment v) s = refl
with_text-keeps f a t n (namespace p u) s = n p s u
with_text-keeps f a t n (instruction v d) s = refl

pub wf-replaced : {t : Tree} → WF t → (b : ℕ) (s : List ℕ) → WF (replaced t b s)
unfolding set_kind
wf-replaced {t} W b s = record {
  root_kind = root_kind (ℕ_discrete 0 b);
  root_parent = W.root_parent;
  root_live = W.root_live;
  root_only = λ x lx r. W.root_only x lx (sym (same is_root (with_text-keeps is_root (λ _ _ _. refl) (λ _ _. refl) (λ _ _ _. refl)) x) ∙ r);
  counted = W.counted;
  upward = upward;
  detached = λ x lx e. which x ∙ W.detached x lx e;
  downward = λ w p x lp m. let u = W.downward w p x lp m in (u.0, u.1, which x ∙ u.2);
  once = W.once;
  ends = W.ends;
  one_element = λ x y mx my ex ey. W.one_element x y mx my (sym (elem x) ∙ ex) (sym (elem y) ∙ ey);
}
  where
    kind : ℕ → Kind Name (List ℕ)
    kind = update t.kind b (with_text (t.kind b) s)

    same : {A : Type 0} (f : Kind Name (List ℕ) → A) → ((k : Kind Name (List ℕ)) (u : List ℕ) → f (with_text k u) ≡ f k) → (x : ℕ) → f (kind x) ≡ f (t.kind x)
    same f keeps x = go (ℕ_discrete x b)
      where
        go : Dec (x ≡ b) → f (kind x) ≡ f (t.kind x)
        go (yes e) = ap f (ap kind e ∙ update_same t.kind b (with_text (t.kind b) s)) ∙ keeps (t.kind b) s ∙ ap (λ (z : ℕ). f (t.kind z)) (sym e)
        go (no n) = ap f (update_other t.kind b (with_text (t.kind b) s) x n)

    which : (x : ℕ) → which_of (kind x) ≡ which_of (t.kind x)
    which = same which_of (with_text-keeps which_of (λ _ _ _. refl) (λ _ _. refl) (λ _ _ _. refl))

    elem : (x : ℕ) → is_element (kind x) ≡ is_element (t.kind x)
    elem = same is_element (with_text-keeps is_element (λ _ _ _. refl) (λ _ _. refl) (λ _ _ _. refl))

    owned : (w : Which) (x : ℕ) → owns w (kind x) ≡ owns w (t.kind x)
    owned children = same is_container (with_text-keeps is_container (λ _ _ _. refl) (λ _ _. refl) (λ _ _ _. refl))
    owned attributes = elem
    owned namespaces = elem

    root_kind : Dec (0 ≡ b) → kind 0 ≡ root
    root_kind (yes e) = ap kind e ∙ update_same t.kind b (with_text (t.kind b) s) ∙ ap (λ (k : Kind Name (List ℕ)). with_text k s) (ap t.kind (sym e) ∙ W.root_kind)
    root_kind (no n) = update_other t.kind b (with_text (t.kind b) s) 0 n ∙ W.root_kind

    upward : (x p : ℕ) → t.live x ≡ true → t.parent x ≡ Some p
        → (t.live p ≡ true) × (owns (which_of (kind x)) (kind p) ≡ true) × Memᴰ x (t.lists (which_of (kind x)) p)
    upward x p lx e =
        let u = W.upward x p lx e in
        (u.0, ap (λ (w : Which). owns w (kind p)) (which x) ∙ owned (which_of (t.kind x)) p ∙ u.1, subst (λ (w : Which). Memᴰ x (t.lists w p)) (sym (which x)) u.2)

-- ---- nodes without a parent

-- but for b, a node without a parent is one of a child list
abbrev pub DetachedBut : ℕ → Tree → Type 0
DetachedBut b t = (x : ℕ) → x ≢ b → t.live x ≡ true → t.parent x ≡ None → which_of (t.kind x) ≡ children

module _ {t : Tree} (N : Nested t) where
  pub wf-attach : (w : Which) (p i b : ℕ) → DetachedBut b t → t.live b ≡ true → t.live p ≡ true → b ≢ 0 → t.parent b ≡ None → which_of (t.kind b) ≡ w
      → owns w (t.kind p) ≡ true → Clear t.parent b p → (p ≡ 0 → is_element (t.kind b) ≡ true → NoRootElement t) → WF (attach t w p i b)
  unfolding set_list set_parent
  wf-attach w p i b others lb lp b0 pb wb fp cl one =
      well-formed (nested-attach N w p i b lb lp b0 pb wb fp cl one) (λ x lx. detached x lx (ℕ_discrete x b))
    where
      detached : (x : ℕ) → t.live x ≡ true → Dec (x ≡ b) → update t.parent b (Some p) x ≡ None → which_of (t.kind x) ≡ children
      detached x lx (yes e) = rw (e, update_same t.parent b (Some p)) (λ f. absurd (none-some p (sym f)))
      detached x lx (no n) = rw (update_other t.parent b (Some p) x n) (others x n lx)

  -- the node and all below are gone
  pub wf-gone : (b : ℕ) → DetachedBut b t → b ≢ 0 → t.parent b ≡ None → WF (gone t b)
  unfolding gone
  wf-gone b others b0 pb = record {
    root_kind = N.root_kind;
    root_parent = N.root_parent;
    root_live = keeps 0 N.root_live (Clear.top (λ e. b0 (sym e)) N.root_parent);
    root_only = λ x lx. N.root_only x (was x lx);
    counted = λ x lx. N.counted x (was x lx);
    upward = λ x p lx e. let u = N.upward x p (was x lx) e in (keeps p u.0 (over (avoids x lx) e), u.1, u.2);
    detached = λ x lx. others x (here (avoids x lx)) (was x lx);
    downward = λ w p x lp m. let u = N.downward w p x (was p lp) m in (keeps x u.0 (Clear.up p (not-b x p u.1) u.1 (avoids p lp)), u.1, u.2);
    once = λ w p lp. N.once w p (was p lp);
    ends = λ x lx. N.ends x (was x lx);
    one_element = N.one_element;
  }
    where
      was : (x : ℕ) → (t.live x && not (above t.births t.parent b x)) ≡ true → t.live x ≡ true
      was x h = and_left (t.live x) (not (above t.births t.parent b x)) h

      avoids : (x : ℕ) → (t.live x && not (above t.births t.parent b x)) ≡ true → Clear t.parent b x
      avoids x h = above-clear N b x (was x h) (go (above t.births t.parent b x) (and_right (t.live x) (not (above t.births t.parent b x)) h))
        where
          go : (q : Bool) → not q ≡ true → q ≡ false
          go true e = absurd (false≢true e)
          go false e = refl

      keeps : (x : ℕ) → t.live x ≡ true → Clear t.parent b x → (t.live x && not (above t.births t.parent b x)) ≡ true
      keeps x lx c = and_both (t.live x) (not (above t.births t.parent b x)) lx (ap not (clear_above N b x lx c))

      here : {x : ℕ} → Clear t.parent b x → x ≢ b
      here (Clear.top n e) = n
      here (Clear.up p n e c) = n

      over : {x p : ℕ} → Clear t.parent b x → t.parent x ≡ Some p → Clear t.parent b p
      over {x} {p} (Clear.top n e) f = absurd (none-some p (sym e ∙ f))
      over {x} {p} (Clear.up q n e c) f = subst (λ (z : ℕ). Clear t.parent b z) (same_Some q p (sym e ∙ f)) c

      not-b : (x p : ℕ) → t.parent x ≡ Some p → x ≢ b
      not-b x p e f = none-some p (sym pb ∙ ap t.parent (sym f) ∙ e)

  -- a walk through live nodes avoids what is not live
  live-clear : (n : ℕ) → ((x : ℕ) → t.live x ≡ true → x ≢ n) → {x : ℕ} → t.live x ≡ true → Ends t.parent x → Clear t.parent n x
  live-clear n new {x} lx (Ends.top e) = Clear.top (new x lx) e
  live-clear n new {x} lx (Ends.up p e r) = Clear.up p (new x lx) e (live-clear n new (N.upward x p lx e).0 r)

module _ {t : Tree} (W : WF t) where
  pub not_root : (b : ℕ) → is_root (t.kind b) ≡ false → b ≢ 0
  not_root b r e = true≢false (sym (ap is_root (ap t.kind e ∙ W.root_kind)) ∙ r)

  -- ---- append

  pub wf-appended : (p : ℕ) (k : Kind Name (List ℕ)) → t.live p ≡ true → owns (which_of k) (t.kind p) ≡ true → is_root k ≡ false
      → (p ≡ 0 → is_element k ≡ true → NoRootElement t) → WF (appended t (which_of k) p k)
  unfolding born
  wf-appended p k lp fp nr one =
      wf-attach (nested-born (nested W) k nr) (which_of k) p (length (update (t.lists (which_of k)) n [] p)) n others
      (update_same t.live n true) (update_other t.live n true p (new p lp) ∙ lp) (λ e. new 0 W.root_live (sym e))
      (update_same t.parent n None) (ap which_of (update_same t.kind n k)) (ap (owns (which_of k)) (update_other t.kind n k p (new p lp)) ∙ fp)
      (clear-update None (live-clear (nested W) n new lp (W.ends p lp))) (λ e el. none-under (one e (sym (ap is_element (update_same t.kind n k)) ∙ el)))
    where
      n : ℕ
      n = t.births

      new : (x : ℕ) → t.live x ≡ true → x ≢ n
      new x lx = let h = W.counted x lx in omega arith

      others : DetachedBut n (born t k)
      others x m lx e =
          ap which_of (update_other t.kind n k x m)
          ∙ W.detached x (sym (update_other t.live n true x m) ∙ lx) (sym (update_other t.parent n None x m) ∙ e)

      none-under : NoRootElement t → NoRootElement (born t k)
      none-under no-element a m el =
          let m' : Memᴰ a (t.lists children 0) = subst (λ (l : List ℕ). Memᴰ a l) (update_other (t.lists children) n [] 0 (new 0 W.root_live)) m in
          no-element a m' (sym (ap is_element (update_other t.kind n k a (new a (W.downward children 0 a W.root_live m').0))) ∙ el)

  -- ---- detach, move and remove

  pub unhook-others : (b : ℕ) → DetachedBut b (unhook t b)
  unhook-others b x n lx e =
      ap (λ (f : ℕ → Kind Name (List ℕ)). which_of (f x)) (unhook-kind t b)
      ∙ W.detached x (sym (ap (λ (f : ℕ → Bool). f x) (unhook-live t b)) ∙ lx)
      (sym (ap (λ (f : ℕ → Option ℕ). f x) (unhook-parent t b) ∙ update_other t.parent b None x n) ∙ e)

  pub wf-unhooked : (b : ℕ) → which_of (t.kind b) ≡ children → WF (unhook t b)
  wf-unhooked b wb = well-formed (nested-unhook (nested W) b) (λ x lx e. go x lx e (ℕ_discrete x b))
    where
      go : (x : ℕ) → (unhook t b).live x ≡ true → (unhook t b).parent x ≡ None → Dec (x ≡ b) → which_of ((unhook t b).kind x) ≡ children
      go x lx e (yes f) = ap (λ (f : ℕ → Kind Name (List ℕ)). which_of (f x)) (unhook-kind t b) ∙ ap (λ (z : ℕ). which_of (t.kind z)) f ∙ wb
      go x lx e (no n) = unhook-others b x n lx e

  pub wf-removed : (b : ℕ) → b ≢ 0 → WF (removed t b)
  wf-removed b b0 = wf-gone (nested-unhook (nested W) b) b (unhook-others b) b0 (unhook-parentless t b)

  pub wf-moved : (p : ℕ) (at : Option ℕ) (c : ℕ) → t.live c ≡ true → t.live p ≡ true → c ≢ 0 → which_of (t.kind c) ≡ children
      → is_container (t.kind p) ≡ true → above t.births t.parent c p ≡ false
      → (p ≡ 0 → is_element (t.kind c) ≡ true → (a : ℕ) → Memᴰ a (t.lists children 0) → is_element (t.kind a) ≡ true → a ≡ c)
      → WF (moved t p at c)
  wf-moved p at c lc lp c0 wc kp ab one =
      wf-attach (nested-unhook (nested W) c) children p (or_else (length ((unhook t c).lists children p)) at) c (unhook-others c)
      (ap (λ (f : ℕ → Bool). f c) (unhook-live t c) ∙ lc) (ap (λ (f : ℕ → Bool). f p) (unhook-live t c) ∙ lp) c0 (unhook-parentless t c)
      (ap which_of (kind c) ∙ wc) (ap is_container (kind p) ∙ kp)
      (subst (λ (f : ℕ → Option ℕ). Clear f c p) (sym (unhook-parent t c)) (clear-update None (above-clear (nested W) c p lp ab)))
      (λ e el. none-under (one e (sym (ap is_element (kind c)) ∙ el)))
    where
      kind : (x : ℕ) → (unhook t c).kind x ≡ t.kind x
      kind x = ap (λ (f : ℕ → Kind Name (List ℕ)). f x) (unhook-kind t c)

      none-under : ((a : ℕ) → Memᴰ a (t.lists children 0) → is_element (t.kind a) ≡ true → a ≡ c) → NoRootElement (unhook t c)
      none-under only a m el =
          let u = unhooked (nested W) c children 0 W.root_live a m in
          u.1 (only a u.0 (sym (ap is_element (kind a)) ∙ el))

  -- ---- the Root's element

  -- none is there, or only c
  pub untaken : other_than (root_element t) None ≡ false → NoRootElement t
  untaken e = λ a m el. find_none (λ c. is_element (t.kind c)) (t.lists children 0) (go (root_element t) e) m el
    where
      go : (o : Option ℕ) → other_than o None ≡ false → o ≡ None
      go None e = refl
      go (Some r) e = absurd (true≢false e)

  pub untaken-but : (c : ℕ) → other_than (root_element t) (Some c) ≡ false → (a : ℕ) → Memᴰ a (t.lists children 0) → is_element (t.kind a) ≡ true → a ≡ c
  untaken-but c e a m el = go (root_element t) refl e
    where
      go : (o : Option ℕ) → root_element t ≡ o → other_than o (Some c) ≡ false → a ≡ c
      go None f e = absurd (find_none (λ c. is_element (t.kind c)) (t.lists children 0) f m el)
      go (Some r) f e =
          let o = find-some (λ c. is_element (t.kind c)) (t.lists children 0) r f in
          W.one_element a r m o.0 el o.1 ∙ eqb-true r c (negated (eqb r c) e)
        where
          negated : (q : Bool) → not q ≡ false → q ≡ true
          negated true e = refl
          negated false e = absurd (true≢false e)

-- `child_kind` lets through what stands in a child list, and not the Root
module _ {N T : Type 0} where
  pub child-which : (k : Kind N T) → child_kind k ≡ 0 → which_of k ≡ children
  child-which root e = refl
  child-which (element n) e = refl
  child-which (attribute n v) e = absurd (omega arith)
  child-which (text t) e = refl
  child-which (comment t) e = refl
  child-which (namespace p u) e = absurd (omega arith)
  child-which (instruction t d) e = refl

  pub child-not-root : (k : Kind N T) → child_kind k ≡ 0 → is_root k ≡ false
  child-not-root root e = absurd (omega arith)
  child-not-root (element n) e = refl
  child-not-root (attribute n v) e = refl
  child-not-root (text t) e = refl
  child-not-root (comment t) e = refl
  child-not-root (namespace p u) e = refl
  child-not-root (instruction t d) e = refl
