-- Renewing the order: the document's words are the places in the tree's document order.
-- Assumes nothing.
use Rattle.std.proofs.lemmas.Option.{none-some, same_Some}
use Rattle.std.specs.Prelude.{Some}
use mathlib.Core.Path.{◌≡◌, refl, sym, ap, ap₂, ◌∙◌, subst}
use mathlib.Core.Logic.{◌⊎◌, inl, inr}
use mathlib.Core.Bool.{true, false, true≢false}
use mathlib.Core.List.Memᴰ
use mathlib.Core.List.{List, [], ◌∷◌, ◌++◌, map, append_assoc, Memᴰ}
use Prim.Native.Nat.{ℕ, zero, suc, ◌+◌, ◌-◌, ◌≤◌, ◌<◌}
use native.Mathlib.Omega.{arith}
use native.Mathlib.Decide.{dec_lt}
use lib.ListN.{length, get_or, drop, replicate, length-append, length-drop, length-replicate, length-map, get_or-replicate, get_or-append}
use lib.Seq.{get_or-append-add, get_or-drop}
use Rattle.words.specs.Lists.{joined}
use Rattle.words.proofs.Lists.{map-append}
use Rattle.words.proofs.Joined.{joined-append}
use Rattle.records.specs.Handles.{handle_index}
use Rattle.model.specs.Kinds.{Which, children, attributes, namespaces, which_of}
use Rattle.model.specs.Doc.{Doc, no_key, live_slot, list_at}
use Rattle.model.specs.Edits.{walk, ordered, keyed, order_of, renew_order}
use Rattle.model.specs.Calls.{key_of}
use Rattle.model.specs.Tree.{Tree, in_order, key_in, set_current}
use Rattle.laws.proofs.Wf.{Distinct, WF}
use Rattle.laws.proofs.Sim.{Sim}
use Rattle.laws.proofs.Kept.{within-kept, free-kept, pool-kept}
use Rattle.laws.proofs.Basics.{birth-below, limit-nodes}
use Rattle.laws.proofs.Membership.{mem-joined-cases, distinct_append, distinct-joined}
use Rattle.laws.proofs.Nested.{Nested, nested}
use Rattle.laws.proofs.Walk.{visit, visited, visit-distinct}
use Rattle.laws.proofs.Cycle.{slots-enough}
use Rattle.laws.proofs.Subtree.{lists-apart, birth-in, walk-births}
use Rattle.laws.proofs.Keyed.{length-keyed, keyed-other, keyed-fits, keyed-position}

-- ---- joined lists

joined-joined : {A B C : Type 0} (g : B → List A) (p : C → List B) (l : List C) → joined g (joined p l) ≡ joined (λ y. joined g (p y)) l
joined-joined g p [] = refl
joined-joined g p (x ∷ l) = joined-append g (p x) (joined p l) ∙ ap (λ (k : List _). joined g (p x) ++ k) (joined-joined g p l)

joined_same : {A B : Type 0} (f g : B → List A) (l : List B) → ((x : B) → f x ≡ g x) → joined f l ≡ joined g l
joined_same f g [] h = refl
joined_same f g (x ∷ l) h = ap₂ ◌++◌ (h x) (joined_same f g l h)

pub joined-births : (hs : ℕ → ℕ) (f g : ℕ → List ℕ) (l : List ℕ) → ((x : ℕ) → Memᴰ x l → f (hs x) ≡ map hs (g x)) → joined f (map hs l) ≡ map hs (joined g l)
joined-births hs f g [] h = refl
joined-births hs f g (x ∷ l) h =
    ap₂ ◌++◌ (h x (Memᴰ.head refl)) (joined-births hs f g l (λ y m. h y (Memᴰ.tail m))) ∙ sym (map-append hs (g x) (joined g l))

-- ---- the tree's document order is a walk along the children, each node with its own two lists

abbrev with_own : (Which → ℕ → List ℕ) → ℕ → List ℕ
with_own ls x = x ∷ (ls namespaces x ++ ls attributes x)

in-order : (ls : Which → ℕ → List ℕ) (f x : ℕ) → joined (with_own ls) (visit (ls children) f x) ≡ in_order f ls x
in-order ls zero x = refl
in-order ls (suc f) x =
    ap (λ (l : List ℕ). x ∷ l)
    (ap (λ (l : List ℕ). (ls namespaces x ++ ls attributes x) ++ l)
    (joined-joined (with_own ls) (λ y. visit (ls children) f y) (ls children x)
    ∙ joined_same (λ y. joined (with_own ls) (visit (ls children) f y)) (λ y. in_order f ls y) (ls children x) (λ y. in-order ls f y))
    ∙ append_assoc (ls namespaces x) (ls attributes x) (joined (λ y. in_order f ls y) (ls children x)))

module _ {t : Tree} (N : Nested t) where
  pub child-kid : (x y : ℕ) → t.live x ≡ true → Memᴰ y (t.lists children x) → (t.live y ≡ true) × (t.parent y ≡ Some x)
  child-kid x y lx m = let o = N.downward children x y lx m in (o.0, o.1)

  pub child-once : (x : ℕ) → t.live x ≡ true → Distinct (t.lists children x)
  child-once x lx = N.once children x lx

  -- a visited node is the top or in a list of children
  pub visited-child : (f x y : ℕ) → t.live x ≡ true → Memᴰ y (visit (t.lists children) f x) → (y ≡ x) ⊎ (which_of (t.kind y) ≡ children)
  visited-child zero x y lx m = absurd (Memᴰ.not-nil m)
  visited-child (suc f) x y lx m = go (λ k lk q. visited-child f k y lk q) (Memᴰ.cases_cons m)
    where
      last : {k : ℕ} → which_of (t.kind k) ≡ children → (y ≡ k) ⊎ (which_of (t.kind y) ≡ children) → which_of (t.kind y) ≡ children
      last w (inl e) = ap (λ (z : ℕ). which_of (t.kind z)) e ∙ w
      last w (inr e) = e

      go : ((k : ℕ) → t.live k ≡ true → Memᴰ y (visit (t.lists children) f k) → (y ≡ k) ⊎ (which_of (t.kind y) ≡ children))
          → (y ≡ x) ⊎ Memᴰ y (joined (λ y. visit (t.lists children) f y) (t.lists children x)) → (y ≡ x) ⊎ (which_of (t.kind y) ≡ children)
      go ih (inl e) = inl e
      go ih (inr q) =
          let o = mem-joined-cases (λ y. visit (t.lists children) f y) (t.lists children x) q in
          let k = N.downward children x o.0 lx o.1 in
          inr (last k.2 (ih o.0 k.0 o.2))

  -- the nodes of the document, attributes and namespaces apart
  abbrev in_document : List ℕ
  in_document = visit (t.lists children) t.births 0

  document-once : Distinct in_document
  document-once = visit-distinct N (t.lists children) child-kid child-once t.births 0 N.root_live

  document-live : (y : ℕ) → Memᴰ y in_document → t.live y ≡ true
  document-live y m = (visited N (t.lists children) child-kid t.births 0 N.root_live y m).0

  -- an entry of the order: a visited node, or one in its own two lists
  abbrev Own : ℕ → ℕ → Type 0
  Own k y = (y ≡ k) ⊎ ((w : Which) × Memᴰ y (t.lists w k) × (w ≡ children → ⊥))

  own-cases : (k y : ℕ) → Memᴰ y (with_own t.lists k) → Own k y
  own-cases k y m = go (Memᴰ.cases_cons m)
    where
      two : Memᴰ y (t.lists namespaces k) ⊎ Memᴰ y (t.lists attributes k) → Own k y
      two (inl q) = inr (namespaces, q, λ e. let z : ◌≡◌ {A = ℕ} 0 1 = cc in omega arith)
      two (inr q) = inr (attributes, q, λ e. let z : ◌≡◌ {A = ℕ} 0 1 = cc in omega arith)

      go : (y ≡ k) ⊎ Memᴰ y (t.lists namespaces k ++ t.lists attributes k) → Own k y
      go (inl e) = inl e
      go (inr q) = two (Memᴰ.append_cases (t.lists namespaces k) q)

  -- a visited node is in no list of attributes or namespaces
  not-owned : (y k : ℕ) → Memᴰ y in_document → t.live k ≡ true → (w : Which) → Memᴰ y (t.lists w k) → (w ≡ children → ⊥) → ⊥
  not-owned y k m lk w n nc =
      let o = N.downward w k y lk n in
      go o.1 o.2 (visited-child t.births 0 y N.root_live m)
    where
      go : t.parent y ≡ Some k → which_of (t.kind y) ≡ w → (y ≡ 0) ⊎ (which_of (t.kind y) ≡ children) → ⊥
      go p e (inl z) = none-some k (sym N.root_parent ∙ ap t.parent (sym z) ∙ p)
      go p e (inr c) = nc (sym e ∙ c)

  entries-once : Distinct (joined (with_own t.lists) in_document)
  entries-once = distinct-joined (with_own t.lists) in_document document-once each unique
    where
      each : (k : ℕ) → Memᴰ k in_document → Distinct (with_own t.lists k)
      each k m =
          let lk = document-live k m in (
            (λ q. own lk (Memᴰ.append_cases (t.lists namespaces k) q)),
            distinct_append (t.lists namespaces k) (t.lists attributes k) (N.once namespaces k lk) (N.once attributes k lk)
                (λ y p q. lists-apart N namespaces attributes (λ e. let z : ◌≡◌ {A = ℕ} 0 1 = cc in omega arith) k y lk p q),
          )
        where
          own : t.live k ≡ true → Memᴰ k (t.lists namespaces k) ⊎ Memᴰ k (t.lists attributes k) → ⊥
          own lk (inl q) = not-owned k k m lk namespaces q (λ e. let z : ◌≡◌ {A = ℕ} 0 1 = cc in omega arith)
          own lk (inr q) = not-owned k k m lk attributes q (λ e. let z : ◌≡◌ {A = ℕ} 0 1 = cc in omega arith)

      unique : (k j y : ℕ) → Memᴰ k in_document → Memᴰ j in_document → Memᴰ y (with_own t.lists k) → Memᴰ y (with_own t.lists j) → k ≡ j
      unique k j y mk mj a b = go (own-cases k y a) (own-cases j y b)
        where
          go : Own k y → Own j y → k ≡ j
          go (inl e) (inl f) = sym e ∙ f
          go (inl e) (inr f) = absurd (not-owned y j (subst (λ (z : ℕ). Memᴰ z in_document) (sym e) mk) (document-live j mj) f.0 f.1 f.2)
          go (inr e) (inl f) = absurd (not-owned y k (subst (λ (z : ℕ). Memᴰ z in_document) (sym f) mj) (document-live k mk) e.0 e.1 e.2)
          go (inr e) (inr f) =
              same_Some k j (sym (N.downward e.0 k y (document-live k mk) e.1).1 ∙ (N.downward f.0 j y (document-live j mj) f.1).1)

  entries-live : (y : ℕ) → Memᴰ y (joined (with_own t.lists) in_document) → t.live y ≡ true
  entries-live y m =
      let o = mem-joined-cases (with_own t.lists) in_document m in
      go o.0 (document-live o.0 o.1) (own-cases o.0 y o.2)
    where
      go : (k : ℕ) → t.live k ≡ true → Own k y → t.live y ≡ true
      go k lk (inl e) = ap t.live e ∙ lk
      go k lk (inr q) = (N.downward q.0 k y lk q.1).0

  -- the tree's document order
  abbrev order : List ℕ
  order = in_order t.births t.lists 0

  pub order-once : Distinct order
  order-once = subst Distinct (in-order t.lists t.births 0) entries-once

  pub order-live : (y : ℕ) → Memᴰ y order → t.live y ≡ true
  order-live y m = entries-live y (subst (λ (l : List ℕ). Memᴰ y l) (sym (in-order t.lists t.births 0)) m)

-- ---- the words

module _ {d : Doc} {t : Tree} {hs : ℕ → ℕ} (S : Sim d t hs) (N : Nested t) where
  ordered-births : ordered d ≡ map hs (in_order t.births t.lists 0)
  ordered-births =
      ap (joined (λ h. h ∷ (list_at d namespaces h ++ list_at d attributes h)))
      (ap (λ (h : ℕ). walk (λ h. list_at d children h) (length d.gens) (h ∷ [])) (sym S.root_is)
      ∙ walk-births S N (λ h. list_at d children h) (t.lists children) (λ x lx. S.lists children x lx) (child-kid N) (child-once N) 0 N.root_live)
      ∙ joined-births hs (λ h. h ∷ (list_at d namespaces h ++ list_at d attributes h)) (with_own t.lists) (in_document N)
      (λ x m.
      let lx = document-live N x m in
      ap (λ (l : List ℕ). hs x ∷ l)
      (ap₂ ◌++◌ (S.lists namespaces x lx) (S.lists attributes x lx) ∙ sym (map-append hs (t.lists namespaces x) (t.lists attributes x))))
      ∙ ap (map hs) (in-order t.lists t.births 0)

  -- the words before any key is laid
  blank : List ℕ
  blank = replicate (length d.gens) no_key ++ drop (length d.gens) d.order

  length-blank : length blank ≡ d.limits.nodes
  unfolding blank
  length-blank =
      omega (
        arith,
        length-append (replicate (length d.gens) no_key) (drop (length d.gens) d.order),
        length-replicate (length d.gens) no_key,
        length-drop (length d.gens) d.order,
        S.shape.order,
        S.within.slots,
      )

  blank-at : (i e : ℕ) → i < length d.gens → get_or blank i e ≡ no_key
  unfolding blank
  blank-at i e lt =
      get_or-append (replicate (length d.gens) no_key) (drop (length d.gens) d.order) e i (rw (length-replicate (length d.gens) no_key) lt)
      ∙ get_or-replicate (length d.gens) i no_key e lt

  blank-fits : (i : ℕ) → get_or blank i 0 < 4294967296
  unfolding blank
  blank-fits i = go (dec_lt i (length d.gens))
    where
      go : Dec (i < length d.gens) → get_or blank i 0 < 4294967296
      go (yes lt) = rw (blank-at i 0 lt) (omega arith)
      go (no n) =
          let k : ℕ = i - length d.gens in
          let e : length (replicate (length d.gens) no_key) + k ≡ i = omega (arith, length-replicate (length d.gens) no_key) in
          subst (λ (j : ℕ). get_or blank j 0 < 4294967296) e
          (rw (get_or-append-add (replicate (length d.gens) no_key) (drop (length d.gens) d.order) k 0, get_or-drop (length d.gens) d.order k 0)
          (S.order_fits (length d.gens + k)))

  words-after : order_of d ≡ keyed blank 0 (map hs (order N))
  unfolding order_of blank
  words-after = ap (keyed blank 0) ordered-births

  order-short : length (order N) ≤ 65536
  order-short = omega (arith, slots-enough S (order N) (order-once N) (order-live N), S.within.slots, limit-nodes d.limits S.limits)

  order-keys : (b : ℕ) → t.live b ≡ true → key_of (get_or (order_of d) (handle_index (hs b)) no_key) ≡ key_in t b
  order-keys b lb =
      let lt : handle_index (hs b) < length d.gens = birth-below d t hs S b lb in
      ap (λ (l : List ℕ). key_of (get_or l (handle_index (hs b)) no_key)) words-after
      ∙ keyed-position hs b (order N) blank (order-once N) (λ y m e. S.inj y b (order-live N y m) lb e)
      (omega (arith, length-blank, S.within.slots)) (omega (arith, order-short)) (blank-at (handle_index (hs b)) no_key lt)

  order-free : (i : ℕ) → i < length d.gens → live_slot d i ≡ false → get_or (order_of d) i 0 ≡ no_key
  order-free i lt o =
      ap (λ (l : List ℕ). get_or l i 0) words-after
      ∙ keyed-other (map hs (order N)) blank 0 i 0
      (λ m.
      let q = birth-in S (order N) m in
      true≢false (sym (ap (live_slot d) q.2 ∙ S.lives q.0 (order-live N q.0 q.1)) ∙ o))
      ∙ blank-at i 0 lt

  pub sim-renewed-nested : Sim (renew_order d) (set_current t) hs
  unfolding renew_order set_current
  sim-renewed-nested =
      record {
        shape = record {
          kinds = S.shape.kinds;
          parents = S.shape.parents;
          ranges = S.shape.ranges;
          ids = S.shape.ids;
          caps = S.shape.caps;
          order = ap length words-after ∙ length-keyed (map hs (order N)) blank 0 ∙ length-blank;
          unused = S.shape.unused;
        };
        limits = S.limits;
        counts = S.counts;
        lengths = S.lengths;
        within = within-kept S d.parents d.ranges d.arenas (order_of d) true;
        generations = S.generations;
        nodes = S.nodes;
        order_fits = λ i. rw words-after (keyed-fits (map hs (order N)) blank 0 blank-fits (omega (arith, order-short, length-map (order N) hs)) i);
        caps_fit = S.caps_fit;
        free = free-kept S d.parents d.ranges d.arenas (order_of d) true;
        blocks = S.blocks;
        pool = pool-kept S d.parents d.ranges d.arenas (order_of d) true t.parent t.lists true;
        named = S.named;
        counted = S.counted;
        lives = S.lives;
        gen = S.gen;
        inj = S.inj;
        owner = S.owner;
        kind = S.kind;
        parent = S.parent;
        lists = S.lists;
        current = refl;
        order = λ c. order-keys;
        order_free = λ c. order-free;
        fresh = S.fresh;
        root_live = S.root_live;
        root_is = S.root_is;
      }

pub sim-renewed : {d : Doc} {t : Tree} {hs : ℕ → ℕ} → Sim d t hs → WF t → Sim (renew_order d) (set_current t) hs
sim-renewed S W = sim-renewed-nested S (nested W)
