-- The reading calls answer as the plain tree does.
-- Assumes nothing.
use Rattle.std.specs.Prelude.{Option, None, Some}
use mathlib.Core.Path.{◌≡◌, refl, sym, ap, ◌∙◌}
use mathlib.Core.Logic.{inr}
use mathlib.Core.Bool.{Bool, true, false, cond, false≢true, true≢false}
use mathlib.Core.List.Memᴰ
use mathlib.Core.List.{List, [], ◌∷◌, ◌++◌, Memᴰ}
use Prim.Native.Nat.{ℕ, zero, suc, ◌<◌}
use native.Mathlib.Omega.{arith}
use native.Mathlib.Decide.{ℕ_discrete}
use lib.ListN.{length, get_or}
use Rattle.words.specs.Lists.{tabulate}
use Rattle.blocks.specs.Arena.{block}
use Rattle.records.specs.Handles.{handle_index}
use Rattle.names.specs.Table.{Name}
use Rattle.model.specs.Kinds.{Kind, root, element, attribute, text, comment, namespace, instruction, Which, children, attributes, namespaces, map_kind, is_element}
use Rattle.model.specs.Doc.{Doc, resolves, live_slot, handle_at, live_nodes, kind_at, pair_at, bytes_at, node_at, view_at, shown_list, range_in, no_key}
use Rattle.model.specs.Calls.{Answer, refused, made, truth, node, listed, kind_is, key, key_of, shown_kind, step, root-of, kind-of, parent-of, children-of, root-element, is-element, name_of, attribute-nodes, namespace-nodes, nodes, order-key}
use Rattle.model.specs.Tree.{Tree, means, key_in}
use Rattle.model.specs.Tree as tree
use Rattle.laws.specs.Claim.{shown, through_handles}
use Rattle.laws.proofs.Wf.{WF}
use Rattle.laws.proofs.Sim.{Sim}
use Rattle.laws.proofs.Membership.{mem-joined, mem-joined-cases}
use Rattle.laws.proofs.Basics.{resolves-live, means-live, by-handle, birth-below, handle-of-live}
use Rattle.laws.proofs.Views.{view-agrees, shown-live, shown-stale, root-element-agrees, shows-element}
use Rattle.laws.proofs.Matching.{Matches}

map-kind-twice : {N M T U : Type 0} (f : N → M) (g : T → U) (k : Kind N T) → map_kind f (λ s. s) (map_kind (λ n. n) g k) ≡ map_kind f g k
map-kind-twice f g root = refl
map-kind-twice f g (element n) = refl
map-kind-twice f g (attribute n v) = refl
map-kind-twice f g (text t) = refl
map-kind-twice f g (comment t) = refl
map-kind-twice f g (namespace p u) = refl
map-kind-twice f g (instruction t c) = refl

pub mem-numbers : (n i : ℕ) → i < n → Memᴰ i (tabulate (λ (k : ℕ). k) n)
mem-numbers zero i h = absurd (omega arith)
mem-numbers (suc n) i h = go (ℕ_discrete i n) (mem-numbers n i)
  where
    go : Dec (i ≡ n) → (i < n → Memᴰ i (tabulate (λ (k : ℕ). k) n)) → Memᴰ i (tabulate (λ (k : ℕ). k) n ++ (n ∷ []))
    go (yes e) ih = Memᴰ.append_right (tabulate (λ (k : ℕ). k) n) (Memᴰ.head e)
    go (no g) ih = Memᴰ.append_left (n ∷ []) (ih (omega arith))

module _ (d : Doc) (t : Tree) (hs : ℕ → ℕ) (S : Sim d t hs) (W : WF t) where
  pub step-root : Matches hs root-of d (step root-of d) (tree.step root-of hs t)
  step-root = inr (S, W, ap {B = Answer ℕ Name (Unit {0})} made (sym S.root_is))

  kind-shown : (h : ℕ) → shown d (shown_kind d h) ≡ kind_is (view_at d h) tt tt
  kind-shown h = go (resolves d h)
    where
      go : (q : Bool)
          → shown d (cond q
          (kind_is (Some (map_kind (λ n. n) (bytes_at d) (kind_at d h))) (cond (is_element (kind_at d h)) (range_in d attributes (handle_index h)) (block 0 0)) (cond (is_element (kind_at d h)) (range_in d namespaces (handle_index h)) (block 0 0)))
          (kind_is None (block 0 0) (block 0 0)))
          ≡ kind_is (cond q (Some (node_at d h)) None) tt tt
      go true = ap (λ (k : Kind Name (List ℕ)). kind_is (Some k) tt tt) (map-kind-twice (pair_at d) (bytes_at d) (kind_at d h))
      go false = refl

  pub step-kind : (h : ℕ) → Matches hs (kind-of h) d (step (kind-of h) d) (tree.step (kind-of h) hs t)
  step-kind h = inr (S, W, kind-shown h ∙ ap (λ (v : Option (Kind Name (List ℕ))). kind_is v tt tt) (view-agrees d t hs S W h))

  pub step-parent : (h : ℕ) → Matches hs (parent-of h) d (step (parent-of h) d) (tree.step (parent-of h) hs t)
  step-parent =
      by-handle d t hs S (λ h. Matches hs (parent-of h) d (step (parent-of h) d) (tree.step (parent-of h) hs t))
      (λ b lb. inr (S, W, rw (resolves-live d t hs S b lb, means-live d t hs S b lb) (ap {B = Answer ℕ Name (Unit {0})} node (S.parent b lb))))
      (λ h m r. inr (S, W, rw (m, r)))

  lists_agree : (w : Which) (h : ℕ) → ◌≡◌ {A = Answer ℕ Name (Unit {0})} (listed tt (shown_list d w h)) (through_handles hs (tree.shown_list t w (means t hs h)))
  lists_agree w =
      by-handle d t hs S (λ h. ◌≡◌ {A = Answer ℕ Name (Unit {0})} (listed tt (shown_list d w h)) (through_handles hs (tree.shown_list t w (means t hs h))))
      (λ b lb. rw (means-live d t hs S b lb) (ap {B = Answer ℕ Name (Unit {0})} (listed tt) (shown-live d t hs S W w b lb)))
      (λ h m r. rw m (ap {B = Answer ℕ Name (Unit {0})} (listed tt) (shown-stale d t hs S W w h r)))

  pub step-children : (h : ℕ) → Matches hs (children-of h) d (step (children-of h) d) (tree.step (children-of h) hs t)
  step-children h = inr (S, W, lists_agree children h)

  pub step-attribute-nodes : (h : ℕ) → Matches hs (attribute-nodes h) d (step (attribute-nodes h) d) (tree.step (attribute-nodes h) hs t)
  step-attribute-nodes h = inr (S, W, lists_agree attributes h)

  pub step-namespace-nodes : (h : ℕ) → Matches hs (namespace-nodes h) d (step (namespace-nodes h) d) (tree.step (namespace-nodes h) hs t)
  step-namespace-nodes h = inr (S, W, lists_agree namespaces h)

  pub step-root-element : Matches hs root-element d (step root-element d) (tree.step root-element hs t)
  step-root-element = inr (S, W, ap {B = Answer ℕ Name (Unit {0})} node (root-element-agrees d t hs S W))

  pub step-is-element : (h : ℕ) → Matches hs (is-element h) d (step (is-element h) d) (tree.step (is-element h) hs t)
  step-is-element =
      by-handle d t hs S (λ h. Matches hs (is-element h) d (step (is-element h) d) (tree.step (is-element h) hs t))
      (λ b lb. inr (S, W, rw (means-live d t hs S b lb) (ap {B = Answer ℕ Name (Unit {0})} truth (shows-element d t hs S W b lb))))
      (λ h m r. inr (S, W, rw (m, r)))

  pub step-name : (n : ℕ) → Matches hs (name_of n) d (step (name_of n) d) (tree.step (name_of n) hs t)
  step-name n = inr (S, W, tt)

  key-agrees : (b : ℕ) → t.live b ≡ true
      → (c : Bool) → d.current ≡ c → (e : Bool) → t.current ≡ e
      → shown d (cond c (key (key_of (get_or d.order (handle_index (hs b)) no_key))) (refused 15)) ≡ through_handles hs (cond e (key (key_in t b)) (refused 15))
  key-agrees b lb true c true e = ap {B = Answer ℕ Name (Unit {0})} key (S.order c b lb)
  key-agrees b lb true c false e = absurd (true≢false (sym c ∙ S.current ∙ e))
  key-agrees b lb false c true e = absurd (false≢true (sym c ∙ S.current ∙ e))
  key-agrees b lb false c false e = refl

  pub step-order-key : (h : ℕ) → Matches hs (order-key h) d (step (order-key h) d) (tree.step (order-key h) hs t)
  step-order-key =
      by-handle d t hs S (λ h. Matches hs (order-key h) d (step (order-key h) d) (tree.step (order-key h) hs t))
      (λ b lb. inr (S, W, rw (resolves-live d t hs S b lb, means-live d t hs S b lb) (key-agrees b lb d.current refl t.current refl)))
      (λ h m r. inr (S, W, rw (m, r)))

  all-nodes : (b : ℕ) → t.live b ≡ true → Memᴰ (hs b) (live_nodes d)
  all-nodes b lb =
      mem-joined (λ i. cond (live_slot d i) (handle_at d i ∷ []) []) (tabulate (λ (k : ℕ). k) (length d.gens))
      (mem-numbers (length d.gens) (handle_index (hs b)) (birth-below d t hs S b lb))
      (rw (S.lives b lb) (Memᴰ.head (sym (handle-of-live d t hs S b lb))))

  only-nodes : (h : ℕ) → Memᴰ h (live_nodes d) → (b : ℕ) × (t.live b ≡ true) × (hs b ≡ h)
  only-nodes h m =
      let o = mem-joined-cases (λ i. cond (live_slot d i) (handle_at d i ∷ []) []) (tabulate (λ (k : ℕ). k) (length d.gens)) m in
      go o.0 (live_slot d o.0) refl o.2
    where
      go : (i : ℕ) (q : Bool) → live_slot d i ≡ q → Memᴰ h (cond q (handle_at d i ∷ []) []) → (b : ℕ) × (t.live b ≡ true) × (hs b ≡ h)
      go i true e m =
          let w = S.owner i e in
          (w.0, w.1, sym (handle-of-live d t hs S w.0 w.1) ∙ ap (handle_at d) w.2 ∙ sym (Memᴰ.eq_of_singleton m))
      go i false e m = absurd (Memᴰ.not-nil m)

  pub step-nodes : Matches hs nodes d (step nodes d) (tree.step nodes hs t)
  step-nodes = inr (S, W, (live_nodes d, refl, record { all = all-nodes; only = only-nodes }))
