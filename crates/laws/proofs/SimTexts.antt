-- A replaced text: the node keeps its text slot or takes one, and shows the new bytes; the order stays current.
-- Assumes nothing.
use Rattle.std.proofs.lemmas.Option.{same_Some}
use Rattle.std.specs.Prelude.{Option, None, Some}
use mathlib.Core.Path.{◌≡◌, refl, sym, ap, ap₂, ◌∙◌, subst}
use mathlib.Core.Logic.{◌≢◌}
use mathlib.Core.Bool.{true, false, false≢true}
use mathlib.Core.List.Memᴰ
use mathlib.Core.List.{List, [], ◌∷◌, ◌++◌, Memᴰ}
use Prim.Native.Nat.{ℕ, ◌<◌}
use native.Mathlib.Omega.{arith}
use native.Mathlib.Decide.{ℕ_discrete}
use lib.ListN.{length, get_or, set, length-set}
use lib.Seq.{get_or-set_same, get_or-set_other}
use Rattle.blocks.specs.Arena.{block}
use Rattle.blocks.proofs.Apart.{apart-ext}
use Rattle.records.specs.Handles.{handle_index}
use Rattle.texts.specs.Pool.{Pool, bytes_of, text_at, replaced_slot, replaced}
use Rattle.texts.proofs.Pool.{stored_same, replaced-same, replaced-none, replaced-fits}
use Rattle.names.specs.Table.{Name, name, name_at}
use Rattle.model.specs.Kinds.{Kind, root, element, attribute, text, comment, namespace, instruction, Which, names_of, texts_of, replaceable, with_text}
use Rattle.model.specs.Doc.{Doc, live_slot, is_some, or_else, kind_at, node_at, range_in, pair_at, bytes_at, map_option}
use Rattle.model.specs.Edits.{set_kind}
use Rattle.model.specs.Calls.{replacement_fits, replaceable_at, with_replaced}
use Rattle.model.specs.Rules.{has_range, block_in, slots_held}
use Rattle.model.specs.Tree.{Tree, update}
use Rattle.model.specs.Tree as tree
use Rattle.laws.proofs.Sim.{Sim, fields}
use Rattle.laws.proofs.Shown.{shown_by, replaceable-map, names_of-with_text, has_range-with_text, held-here}
use Rattle.laws.proofs.Basics.{update_same, update_other, birth-below, live-node}
use Rattle.laws.proofs.Repooled.{FreeOnce, free-texts, Holds, Repooled, stored-repooled, replaced-repooled, held-snoc, append-none}
use Rattle.laws.proofs.OneNode.{holds-fields, other-shown, pooled-changed}
use Rattle.laws.proofs.Stores.{PoolFits, fits_both, free_in, one-fits}

-- ---- one node's kind and the pool

module _ (d : Doc) (t : Tree) (hs : ℕ → ℕ) (S : Sim d t hs) (b : ℕ) (lb : t.live b ≡ true) where
  abbrev x : ℕ
  x = handle_index (hs b)

  pub sim-set_kind : (k : Kind ℕ (Option ℕ)) (p : Pool) (kind : Kind Name (List ℕ)) (changed : Option ℕ)
      → Repooled d.pool p (fields d (hs b)) (slots_held (texts_of k)) changed → PoolFits d p → names_of k ≡ names_of (kind_at d (hs b))
      → ((w : Which) → has_range w k ≡ has_range w (kind_at d (hs b))) → shown_by d.names p k ≡ kind
      → Sim (set_kind d (hs b) k p) (tree.set_kind t b kind) hs
  unfolding set_kind tree.set_kind
  sim-set_kind k p kind changed R fits names has shown =
      record {
        shape = record {
          kinds = length-set d.kinds x (Some k) ∙ S.shape.kinds;
          parents = S.shape.parents;
          ranges = S.shape.ranges;
          ids = S.shape.ids;
          caps = S.shape.caps;
          order = S.shape.order;
          unused = λ w i c q h. unused w i c q h (ℕ_discrete i x);
        };
        limits = S.limits;
        counts = S.counts;
        lengths = S.lengths;
        within = record {
          slots = S.within.slots;
          texts = fits.texts;
          text_bytes = fits.bytes;
          names = S.within.names;
          name_bytes = S.within.name_bytes;
        };
        generations = S.generations;
        nodes = λ i e. is-some i (ℕ_discrete i x) ∙ S.nodes i e;
        order_fits = S.order_fits;
        caps_fit = S.caps_fit;
        free = record { odd = S.free.odd; all = S.free.all; once = S.free.once };
        blocks = λ w. apart-ext (d.arenas w) (block_in d w) (block_in d' w) (λ i. rw (live_same i)) (S.blocks w);
        pool =
            pooled-changed d t hs d' b (fields d (hs b)) (slots_held (texts_of k)) changed R mine all S.pool (tree.set_kind t b kind) lb
            (ap (λ (c : Kind ℕ (Option ℕ)). slots_held (texts_of c)) kind-here)
            (λ a la n. (la, ap (λ (c : Kind ℕ (Option ℕ)). slots_held (texts_of c)) (kind-other a la n))) (λ a la. la);
        named = λ a i la m. named a i la m (ℕ_discrete a b);
        counted = S.counted;
        lives = λ a la. live_same (handle_index (hs a)) ∙ S.lives a la;
        gen = S.gen;
        inj = S.inj;
        owner = λ i li. S.owner i (sym (live_same i) ∙ li);
        kind = λ a la. shows a la (ℕ_discrete a b);
        parent = S.parent;
        lists = S.lists;
        current = S.current;
        order = S.order;
        order_free = λ f i lt o. S.order_free f i lt (sym (live_same i) ∙ o);
        fresh = S.fresh;
        root_live = S.root_live;
        root_is = S.root_is;
      }
    where
      d' : Doc
      d' = set_kind d (hs b) k p

      set_here : get_or (set d.kinds x (Some k)) x None ≡ Some k
      set_here = get_or-set_same d.kinds x (Some k) None (omega (arith, birth-below d t hs S b lb, S.shape.kinds))

      set_other : (i : ℕ) → i ≢ x → get_or (set d.kinds x (Some k)) i None ≡ get_or d.kinds i None
      set_other i n = get_or-set_other d.kinds x i (Some k) None n

      kind-here : kind_at d' (hs b) ≡ k
      kind-here = ap (or_else root) set_here

      kind-other : (a : ℕ) → t.live a ≡ true → a ≢ b → kind_at d' (hs a) ≡ kind_at d (hs a)
      kind-other a la n = ap (or_else root) (set_other (handle_index (hs a)) (λ e. n (S.inj a b la lb e)))

      was : get_or d.kinds x None ≡ Some (kind_at d (hs b))
      was = live-node d x (S.lives b lb)

      is-some : (i : ℕ) → Dec (i ≡ x) → is_some (get_or (set d.kinds x (Some k)) i None) ≡ is_some (get_or d.kinds i None)
      is-some i (yes e) = rw e (ap is_some set_here ∙ sym (ap is_some was))
      is-some i (no n) = ap is_some (set_other i n)

      live_same : (i : ℕ) → live_slot d' i ≡ live_slot d i
      live_same i = rw (is-some i (ℕ_discrete i x))

      unused : (w : Which) (i : ℕ) (c : Kind ℕ (Option ℕ)) → get_or (set d.kinds x (Some k)) i None ≡ Some c → has_range w c ≡ false → Dec (i ≡ x)
          → range_in d w i ≡ block 0 0
      unused w i c q h (yes e) =
          let s : k ≡ c = same_Some k c (sym set_here ∙ ap (λ (j : ℕ). get_or (set d.kinds x (Some k)) j None) (sym e) ∙ q) in
          S.shape.unused w i (kind_at d (hs b)) (ap (λ (j : ℕ). get_or d.kinds j None) e ∙ was) (sym (has w) ∙ ap (has_range w) s ∙ h)
      unused w i c q h (no n) = S.shape.unused w i c (sym (set_other i n) ∙ q) h

      mine : (s : ℕ) → Memᴰ s (fields d (hs b)) → (t.live b ≡ true) × Memᴰ s (fields d (hs b))
      mine s m = (lb, m)

      all : t.live b ≡ true → (s : ℕ) → Memᴰ s (fields d (hs b)) → Memᴰ s (fields d (hs b))
      all l s m = m

      named : (a i : ℕ) → t.live a ≡ true → Memᴰ i (names_of (kind_at d' (hs a))) → Dec (a ≡ b) → i < length d.names
      named a i la m (yes e) =
          S.named b i lb
          (subst (λ (l : List ℕ). Memᴰ i l) (ap (λ (c : ℕ). names_of (kind_at d' (hs c))) e ∙ ap names_of kind-here ∙ names) m)
      named a i la m (no n) = S.named a i la (subst (λ (c : Kind ℕ (Option ℕ)). Memᴰ i (names_of c)) (kind-other a la n) m)

      shows : (a : ℕ) → t.live a ≡ true → Dec (a ≡ b) → node_at d' (hs a) ≡ update t.kind b kind a
      shows a la (yes e) = rw (e, update_same t.kind b kind) (ap (shown_by d.names p) kind-here ∙ shown)
      shows a la (no n) =
          rw (update_other t.kind b kind a n)
          (ap (shown_by d.names p) (kind-other a la n)
          ∙ other-shown d t hs d' b (fields d (hs b)) (slots_held (texts_of k)) changed R mine all S (λ i lt. refl) a la n)

-- ---- the field whose text is replaced stands last among the node's fields

last-held : (front : List (Option ℕ)) (o : Option ℕ) (y : ℕ) → o ≡ Some y → Memᴰ y (slots_held (front ++ (o ∷ [])))
last-held front o y e =
    subst (λ (l : List ℕ). Memᴰ y l) (sym (held-snoc front o)) (Memᴰ.append_right (slots_held front) (held-here o [] y e))

module _ (p : Pool) (F : FreeOnce p) (front : List (Option ℕ)) (s : List ℕ) where
  field-repooled : (o : Option ℕ) → Holds p (slots_held (front ++ (o ∷ [])))
      → Repooled p (replaced p o s) (slots_held (front ++ (o ∷ []))) (slots_held (front ++ (replaced_slot p o s ∷ []))) o
  field-repooled None H =
      let e : slots_held (front ++ (None ∷ [])) ≡ slots_held front = held-snoc front None ∙ append-none (slots_held front) in
      subst (λ (l : List ℕ). Repooled p (replaced p None s) l (slots_held (front ++ (replaced_slot p None s ∷ []))) None) (sym e)
      (rw (replaced-none p s) (stored-repooled p s front F (subst (Holds p) e H)))
  field-repooled (Some y) H =
      replaced-repooled p y s (slots_held (front ++ (Some y ∷ []))) F H (last-held front (Some y) y refl)

  field_back : (o : Option ℕ) → Holds p (slots_held (front ++ (o ∷ []))) → text_at (replaced p o s) (replaced_slot p o s) ≡ s
  field_back None H = rw (replaced-none p s) (stored_same p s (free-texts p F))
  field_back (Some y) H = replaced-same p y s (H.inside y (last-held front (Some y) y refl))

-- the field before it keeps its text
before-kept : (p : Pool) → FreeOnce p → (q o : Option ℕ) (s : List ℕ) → Holds p (slots_held (q ∷ o ∷ [])) → text_at (replaced p o s) q ≡ text_at p q
before-kept p F None o s H = refl
before-kept p F (Some y) o s H =
    (field-repooled p F (Some y ∷ []) s o H).same y (H.inside y (Memᴰ.head refl)) (H.not_free y (Memᴰ.head refl))
    (λ e. H.once.0 (held-here o [] y e))

module _ (d : Doc) (t : Tree) (hs : ℕ → ℕ) (S : Sim d t hs) where
  replacement-fits : (o : Option ℕ) (s : List ℕ) → ((y : ℕ) → o ≡ Some y → y < length d.pool.texts) → replacement_fits d o s ≡ true → PoolFits d (replaced d.pool o s)
  replacement-fits None s h e = rw (replaced-none d.pool s) (one-fits d t hs S s e)
  replacement-fits (Some y) s h e =
      let q : Pool = replaced d.pool (Some y) s in
      let f = fits_both (length q.texts) d.limits.texts (length (bytes_of q.texts)) d.limits.text_bytes
      (sym (replaced-fits d.limits.texts d.limits.text_bytes d.pool S.within.texts y s (h y refl)) ∙ e) in
      record { texts = f.0; bytes = f.1 }

  -- a text node's content, an attribute's value, a namespace node's URI
  pub sim-replaced : (b : ℕ) (s : List ℕ) → t.live b ≡ true → is_some (replaceable (t.kind b)) ≡ true → replacement_fits d (replaceable_at d (hs b)) s ≡ true
      → Sim (with_replaced d (hs b) (replaceable_at d (hs b)) s) (tree.replaced t b s) hs
  sim-replaced b s lb may fits = go (kind_at d (hs b)) refl has fits
    where
      p : Pool
      p = d.pool

      F : FreeOnce p
      F = free_in d t hs S

      has : is_some (replaceable (kind_at d (hs b))) ≡ true
      has =
          sym (some-map (replaceable (kind_at d (hs b))))
          ∙ ap is_some (sym (replaceable-map (pair_at d) (bytes_at d) (kind_at d (hs b))) ∙ ap replaceable (S.kind b lb))
          ∙ may
        where
          some-map : (o : Option (Option ℕ)) → is_some (map_option (bytes_at d) o) ≡ is_some o
          some-map None = refl
          some-map (Some u) = refl

      -- the node's fields are these, the last one the field whose text is replaced
      held : (k : Kind ℕ (Option ℕ)) (l : List (Option ℕ)) → kind_at d (hs b) ≡ k → texts_of k ≡ l → Holds p (slots_held l)
      held k l e q =
          subst (λ (m : List (Option ℕ)). Holds p (slots_held m)) (ap texts_of e ∙ q) (holds-fields d t hs S.pool b lb)

      last-field : (k : Kind ℕ (Option ℕ)) (front : List (Option ℕ)) (o : Option ℕ) → kind_at d (hs b) ≡ k → texts_of k ≡ front ++ (o ∷ [])
          → texts_of (with_text k (replaced_slot p o s)) ≡ front ++ (replaced_slot p o s ∷ [])
          → shown_by d.names (replaced p o s) (with_text k (replaced_slot p o s)) ≡ with_text (shown_by d.names p k) s → replacement_fits d o s ≡ true
          → Sim (set_kind d (hs b) (with_text k (replaced_slot p o s)) (replaced p o s)) (tree.replaced t b s) hs
      last-field k front o e old new shown f =
          sim-set_kind d t hs S b lb (with_text k (replaced_slot p o s)) (replaced p o s) (with_text (t.kind b) s) o
          (subst (λ (l : List (Option ℕ)). Repooled p (replaced p o s) (fields d (hs b)) (slots_held l) o) (sym new)
          (subst (λ (l : List (Option ℕ)). Repooled p (replaced p o s) (slots_held l) (slots_held (front ++ (replaced_slot p o s ∷ []))) o)
          (sym (ap texts_of e ∙ old)) (field-repooled p F front s o H)))
          (replacement-fits o s (λ y q. H.inside y (last-held front o y q)) f)
          (names_of-with_text k (replaced_slot p o s) ∙ sym (ap names_of e))
          (λ w. has_range-with_text w k (replaced_slot p o s) ∙ sym (ap (has_range w) e))
          (shown ∙ ap (λ (c : Kind Name (List ℕ)). with_text c s) (sym (ap (shown_by d.names p) e) ∙ S.kind b lb))
        where
          H : Holds p (slots_held (front ++ (o ∷ [])))
          H = held k (front ++ (o ∷ [])) e old

      go : (k : Kind ℕ (Option ℕ)) → kind_at d (hs b) ≡ k → is_some (replaceable k) ≡ true → replacement_fits d (or_else None (replaceable k)) s ≡ true
          → Sim (set_kind d (hs b) (with_text k (replaced_slot p (or_else None (replaceable k)) s)) (replaced p (or_else None (replaceable k)) s)) (tree.replaced t b s) hs
      go root e h f = absurd (false≢true h)
      go (element n) e h f = absurd (false≢true h)
      go (comment u) e h f = absurd (false≢true h)
      go (instruction q u) e h f = absurd (false≢true h)
      go (attribute n v) e h f =
          last-field (attribute n v) [] v e refl refl
          (ap (attribute (or_else (name [] []) (name_at d.names n))) (field_back p F [] s v (held (attribute n v) (v ∷ []) e refl))) f
      go (text u) e h f = last-field (text u) [] u e refl refl (ap text (field_back p F [] s u (held (text u) (u ∷ []) e refl))) f
      go (namespace q u) e h f =
          let H : Holds p (slots_held (q ∷ u ∷ [])) = held (namespace q u) (q ∷ u ∷ []) e refl in
          last-field (namespace q u) (q ∷ []) u e refl refl (ap₂ namespace (before-kept p F q u s H) (field_back p F (q ∷ []) s u H)) f
