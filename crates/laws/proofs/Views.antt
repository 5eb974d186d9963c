-- What a handle shows is what its birth shows: the views that the checks see, the lists that are shown, and what is found in them.
-- Assumes nothing.
use Rattle.std.specs.Prelude.{Option, None, Some}
use mathlib.Core.Path.{◌≡◌, refl, sym, ap, ◌∙◌}
use mathlib.Core.Bool.{Bool, true, false, not, cond}
use mathlib.Core.List.{List, [], ◌∷◌, map, Memᴰ}
use Prim.Native.Nat.{ℕ}
use Rattle.words.specs.Lists.{find}
use Rattle.words.proofs.Parts.{part_none}
use Rattle.words.specs.Pieces.{same_bytes}
use Rattle.names.specs.Table.{Name, same_name}
use Rattle.model.specs.Kinds.{Kind, Which, children, attributes, namespaces, is_element, is_root, attribute_name, prefix_of}
use Rattle.model.specs.Doc.{Doc, resolves, kind_at, pair_at, bytes_at, view_at, shown_list, shows_element, root_element, any_option, map_option}
use Rattle.model.specs.Calls.{has_name, has_prefix, find_attribute, find_namespace, other_than, root_taken, under_root}
use Rattle.model.specs.Tree.{Tree, means, view}
use Rattle.model.specs.Tree as tree
use Rattle.laws.proofs.Wf.{WF}
use Rattle.laws.proofs.Sim.{Sim}
use Rattle.laws.proofs.Membership.{find-some}
use Rattle.laws.proofs.Basics.{resolves-live, means-live, by-handle, same-births}
use Rattle.laws.proofs.Explained.{shown-list}
use Rattle.laws.proofs.Shown.{is_element-map, is_root-map, attribute_name-map, prefix_of-map}

-- a search in the handles of births finds the handle of what the search in the births finds
pub find-births : (hs : ℕ → ℕ) (p q : ℕ → Bool) (l : List ℕ) → ((c : ℕ) → Memᴰ c l → p (hs c) ≡ q c) → find p (map hs l) ≡ map_option hs (find q l)
find-births hs p q [] h = refl
find-births hs p q (c ∷ l) h = go (q c) (h c (Memᴰ.head refl)) (find-births hs p q l (λ e m. h e (Memᴰ.tail m)))
  where
    go : (b : Bool) → p (hs c) ≡ b → find p (map hs l) ≡ map_option hs (find q l) → cond (p (hs c)) (Some (hs c)) (find p (map hs l)) ≡ map_option hs (cond b (Some c) (find q l))
    go true e ih = rw e
    go false e ih = rw e ih

module _ (d : Doc) (t : Tree) (hs : ℕ → ℕ) (S : Sim d t hs) (W : WF t) where
  -- the kind of a live birth, as the tests see it
  pub element-agrees : (b : ℕ) → t.live b ≡ true → is_element (kind_at d (hs b)) ≡ is_element (t.kind b)
  element-agrees b lb = sym (is_element-map (pair_at d) (bytes_at d) (kind_at d (hs b))) ∙ ap is_element (S.kind b lb)

  pub root-agrees : (b : ℕ) → t.live b ≡ true → is_root (kind_at d (hs b)) ≡ is_root (t.kind b)
  root-agrees b lb = sym (is_root-map (pair_at d) (bytes_at d) (kind_at d (hs b))) ∙ ap is_root (S.kind b lb)

  -- the checks see the same
  pub view-live : (b : ℕ) → t.live b ≡ true → view_at d (hs b) ≡ Some (t.kind b)
  view-live b lb = rw (resolves-live d t hs S b lb) (ap {B = Option (Kind Name (List ℕ))} Some (S.kind b lb))

  pub view-agrees : (h : ℕ) → view_at d h ≡ view t (means t hs h)
  view-agrees =
      by-handle d t hs S (λ h. view_at d h ≡ view t (means t hs h))
      (λ b lb. view-live b lb ∙ sym (ap (view t) (means-live d t hs S b lb)))
      (λ h m r. rw (m, r))

  pub shown-live : (w : Which) (b : ℕ) → t.live b ≡ true → shown_list d w (hs b) ≡ map hs (t.lists w b)
  shown-live w b lb = shown-list d t hs S w b lb

  pub shown-stale : (w : Which) (h : ℕ) → resolves d h ≡ false → shown_list d w h ≡ []
  shown-stale w h r = rw r (part_none (d.arenas w).ids 0)

  -- what stands in a live birth's list lives
  pub listed-live : (w : Which) (p c : ℕ) → t.live p ≡ true → Memᴰ c (t.lists w p) → t.live c ≡ true
  listed-live w p c lp m = (W.downward w p c lp m).0

  pub shows-element : (b : ℕ) → t.live b ≡ true → shows_element d (hs b) ≡ is_element (t.kind b)
  shows-element b lb = rw (resolves-live d t hs S b lb) (element-agrees b lb)

  pub root-element-agrees : root_element d ≡ map_option hs (tree.root_element t)
  root-element-agrees =
      ap (find (shows_element d)) (ap (shown_list d children) (sym S.root_is) ∙ shown-live children 0 S.root_live)
      ∙ find-births hs (shows_element d) (λ c. is_element (t.kind c)) (t.lists children 0) (λ c m. shows-element c (listed-live children 0 c S.root_live m))

  -- the element under the Root lives
  pub root-element-live : (c : ℕ) → tree.root_element t ≡ Some c → t.live c ≡ true
  root-element-live c e = listed-live children 0 c S.root_live (find-some _ (t.lists children 0) c e).0

  pub taken-agrees : root_taken d None ≡ other_than (tree.root_element t) None
  taken-agrees = rw root-element-agrees (go (tree.root_element t))
    where
      go : (o : Option ℕ) → other_than (map_option hs o) None ≡ other_than o None
      go None = refl
      go (Some r) = refl

  pub taken-by-other : (c : ℕ) → t.live c ≡ true → root_taken d (Some (hs c)) ≡ other_than (tree.root_element t) (Some c)
  taken-by-other c lc = rw root-element-agrees (go (tree.root_element t) refl)
    where
      go : (o : Option ℕ) → tree.root_element t ≡ o → other_than (map_option hs o) (Some (hs c)) ≡ other_than o (Some c)
      go None e = refl
      go (Some r) e = ap not (same-births d t hs S r c (root-element-live r e) lc)

  pub under-root-agrees : (b : ℕ) → t.live b ≡ true → under_root d (hs b) ≡ tree.under_root t (Some b)
  under-root-agrees b lb = rw (S.parent b lb) (go (t.parent b) refl)
    where
      go : (o : Option ℕ) → t.parent b ≡ o → any_option (λ p. is_root (kind_at d p)) (map_option hs o) ≡ any_option (λ p. is_root (t.kind p)) o
      go None e = refl
      go (Some p) e = root-agrees p (W.upward b p lb e).0

  -- attributes by equal pairs, namespace nodes by equal prefixes
  pub has-name-agrees : (n : Name) (b : ℕ) → t.live b ≡ true → has_name d n (hs b) ≡ tree.has_name t n b
  has-name-agrees n b lb =
      through (attribute_name (kind_at d (hs b)))
      ∙ ap (any_option (same_name n)) (sym (attribute_name-map (pair_at d) (bytes_at d) (kind_at d (hs b))) ∙ ap attribute_name (S.kind b lb))
    where
      through : (o : Option ℕ) → any_option (λ m. same_name n (pair_at d m)) o ≡ any_option (same_name n) (map_option (pair_at d) o)
      through None = refl
      through (Some m) = refl

  pub has-prefix-agrees : (p : List ℕ) (b : ℕ) → t.live b ≡ true → has_prefix d p (hs b) ≡ tree.has_prefix t p b
  has-prefix-agrees p b lb =
      through (prefix_of (kind_at d (hs b)))
      ∙ ap (any_option (same_bytes p)) (sym (prefix_of-map (pair_at d) (bytes_at d) (kind_at d (hs b))) ∙ ap prefix_of (S.kind b lb))
    where
      through : (o : Option (Option ℕ)) → any_option (λ s. same_bytes p (bytes_at d s)) o ≡ any_option (same_bytes p) (map_option (bytes_at d) o)
      through None = refl
      through (Some s) = refl

  pub find-attribute-agrees : (n : Name) (e : ℕ) → t.live e ≡ true → find_attribute d (hs e) n ≡ map_option hs (find (tree.has_name t n) (t.lists attributes e))
  find-attribute-agrees n e le =
      ap (find (has_name d n)) (S.lists attributes e le)
      ∙ find-births hs (has_name d n) (tree.has_name t n) (t.lists attributes e) (λ c m. has-name-agrees n c (listed-live attributes e c le m))

  pub find-namespace-agrees : (p : List ℕ) (e : ℕ) → t.live e ≡ true → find_namespace d (hs e) p ≡ map_option hs (find (tree.has_prefix t p) (t.lists namespaces e))
  find-namespace-agrees p e le =
      ap (find (has_prefix d p)) (S.lists namespaces e le)
      ∙ find-births hs (has_prefix d p) (tree.has_prefix t p) (t.lists namespaces e) (λ c m. has-prefix-agrees p c (listed-live namespaces e c le m))
