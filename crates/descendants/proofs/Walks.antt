-- The walk from position to position lists what the source's walk with a stack lists.
-- Assumes nothing.
use Rattle.std.proofs.lemmas.Option.{same_Some}
use Rattle.std.specs.Prelude.{Some, None, Option}
use Rattle.std.specs.declared.ops.ControlFlow.TheVariants.{Continue, Break}
use mathlib.Core.Path.{◌≡◌, refl, sym, ap, ap₂, ◌∙◌, subst}
use mathlib.Core.Logic.{◌⊎◌, inl, inr}
use mathlib.Core.Bool.{Bool, true, false, cond, ◌&&◌}
use mathlib.Core.List.{List, [], ◌∷◌, ◌++◌, map, Memᴰ}
use Prim.Native.Nat.{ℕ, zero, suc, ◌+◌, ◌-◌, ◌≤◌, ◌<◌, min}
use native.Mathlib.Omega.{arith}
use native.Mathlib.Decide.{dec_lt}
use borrow.Author.Tests.{eq-eqb, ne_eqb, lt-ltb, le-ltb, le-leb}
use lib.Dec.{eqb, ltb}
use lib.ListN.{length, get_or, drop, length-map, length-append}
use Rattle.words.specs.Lists.{index_of, joined, count_of}
use Rattle.model.specs.Kinds.{children}
use Rattle.model.specs.Doc.{Doc, resolves, shown_list, shown_parent, map_option, any_option}
use Rattle.model.specs.Edits.{walk}
use Rattle.model.specs.Tree.{Tree}
use Rattle.laws.proofs.Wf.{Distinct, Ends, WF}
use Rattle.laws.proofs.Sim.{Sim}
use Rattle.laws.proofs.Basics.{resolves-live, hs-injective, count-mem}
use Rattle.laws.proofs.Counting.{mem-get_or, count-once}
use Rattle.laws.proofs.Nested.{nested}
use Rattle.laws.proofs.Membership.{distinct-map, distinct-joined, mem-joined-cases}
use Rattle.laws.proofs.Explained.{shown-list}
use Rattle.laws.proofs.Climb.{Below, path, path-distinct, path-live, length-path, steps, steps_up, steps-unique, some-steps}
use Rattle.laws.proofs.Cycle.{slots-enough}
use Rattle.laws.proofs.Walk.{visit, Tall, tall, visited, visit-distinct, walk-is-visit}
use Rattle.steps.specs.declared.position.Position.{Position}
use Rattle.steps.specs.Next.{hint_for, with_hint, hinted_index, names_parent, visit_entry, Sought, seek, resumed, following, next, start}
use Rattle.descendants.specs.Walking.{listed, list_from, walked, below, descendants}
use Rattle.descendants.proofs.Hints.{behind, hinted-is, index-map, behind-cons, behind-nil, behind-first}
use Rattle.descendants.proofs.Stack.{up, strict}

get_or-map_inside : (f : ℕ → ℕ) (l : List ℕ) (k : ℕ) → k < length l → get_or (map f l) k 0 ≡ f (get_or l k 0)
get_or-map_inside f [] k h = absurd (omega arith)
get_or-map_inside f (y ∷ l) zero h = refl
get_or-map_inside f (y ∷ l) (suc k) h = get_or-map_inside f l k (omega arith)

distinct-count : (x : ℕ) (l : List ℕ) → Distinct l → count_of (eqb x) l ≤ 1
distinct-count x l u = go (dec_lt 0 (count_of (eqb x) l))
  where
    go : Dec (0 < count_of (eqb x) l) → count_of (eqb x) l ≤ 1
    go (yes c) = let z = count-once x l u (count-mem x l c) in omega arith
    go (no c) = omega arith

module _ {d : Doc} {t : Tree} {hs : ℕ → ℕ} (S : Sim d t hs) (W : WF t) (z : ℕ) (lz : t.live z ≡ true) where
  abbrev kids : ℕ → List ℕ
  kids = t.lists children

  -- the walk went on to a node below z, and what is behind it is left
  pub record Went (p : Position) (w : Option Position) (l : List ℕ) : Type 0 where
    pub to : Position
    pub here : ℕ
    pub way : Below t.parent z here
    pub is : w ≡ Some to
    pub zone : to.zone ≡ p.zone
    pub node : to.node ≡ hs here
    pub count : to.left ≡ min p.left d.limits.nodes - 1
    pub lives : t.live here ≡ true
    pub stack : l ≡ here ∷ up t z way

  abbrev Outcome : Position → Option Position → List ℕ → Type 0
  Outcome p w l = ((w ≡ None) × (l ≡ [])) ⊎ Went p w l

  other : (p : Position) (w v : Option Position) (l m : List ℕ) → w ≡ v → l ≡ m → Outcome p v m → Outcome p w l
  other p w v l m e f o = subst (λ (x : Option Position). Outcome p x l) (sym e) (subst (λ (x : List ℕ). Outcome p v x) (sym f) o)

  kid : (x y : ℕ) → t.live x ≡ true → Memᴰ y (kids x) → (t.live y ≡ true) × (t.parent y ≡ Some x)
  kid x y lx m = let o = W.downward children x y lx m in (o.0, o.1)

  parent-shown : (x q : ℕ) → t.live x ≡ true → t.parent x ≡ Some q → shown_parent d (hs x) ≡ Some (hs q)
  parent-shown x q lx e = rw (resolves-live d t hs S x lx) (S.parent x lx ∙ ap (map_option hs) e)

  -- to index k of a live node's children
  visits : (p : Position) (q k : ℕ) → t.live q ≡ true → Below t.parent z q → k < length (kids q) → (l : List ℕ)
      → ((w : Below t.parent z (get_or (kids q) k 0)) → up t z w ≡ behind (get_or (kids q) k 0) (kids q) ++ l → Outcome p (visit_entry d p (hs q) (map hs (kids q)) k) (get_or (kids q) k 0 ∷ (behind (get_or (kids q) k 0) (kids q) ++ l)))
  visits p q k lq r h l w e =
      let y : ℕ = get_or (kids q) k 0 in
      let ly = (kid q y lq (mem-get_or (kids q) k 0 h)).0 in
      let g : get_or (map hs (kids q)) k 0 ≡ hs y = get_or-map_inside hs (kids q) k h in
      let v : names_parent d (hs q) (get_or (map hs (kids q)) k 0) ≡ true = ap (names_parent d (hs q)) g ∙ ap (any_option (eqb (hs q))) (parent-shown y q ly (kid q y lq (mem-get_or (kids q) k 0 h)).1) ∙ eq-eqb (hs q) (hs q) refl in
      inr (record {
        to = record { zone = p.zone; node = get_or (map hs (kids q)) k 0; hints = with_hint p.hints (length (map hs (kids q))) k; left = min p.left d.limits.nodes - 1 };
        here = y;
        way = w;
        is = rw v;
        zone = refl;
        node = g;
        count = refl;
        lives = ly;
        stack = ap (λ (m : List ℕ). y ∷ m) (sym e);
      })

  down-up : (q y : ℕ) (e : t.parent y ≡ Some q) (r : Below t.parent z q) → up t z (Below.down q e r) ≡ behind y (kids q) ++ up t z r
  unfolding up
  down-up q y e r = refl

  here-up : (x : ℕ) (e : x ≡ z) → up t z {y = x} (Below.here e) ≡ []
  unfolding up
  here-up x e = refl

  -- from a list of children on
  visits-in : (p : Position) (q k : ℕ) → t.live q ≡ true → (r : Below t.parent z q) → k < length (kids q)
      → Outcome p (visit_entry d p (hs q) (map hs (kids q)) k) (get_or (kids q) k 0 ∷ (behind (get_or (kids q) k 0) (kids q) ++ up t z r))
  visits-in p q k lq r h =
      let y : ℕ = get_or (kids q) k 0 in
      let e = (kid q y lq (mem-get_or (kids q) k 0 h)).1 in
      visits p q k lq r h (up t z r) (Below.down q e r) (down-up q y e r)

  -- the lists of the nodes on a way up have no birth in common
  path-lists : {x : ℕ} (r : Ends t.parent x) → t.live x ≡ true → length (joined kids (path r)) ≤ length d.gens
  path-lists {x} r lx =
      let on : (y : ℕ) → Memᴰ y (path r) → t.live y ≡ true = path-live (nested W) r lx in
      slots-enough S (joined kids (path r))
      (distinct-joined kids (path r) (path-distinct r) (λ k m. W.once children k (on k m))
      (λ k j y mk mj a b. same_Some k j (sym (kid k y (on k mk) a).1 ∙ (kid j y (on j mj) b).1)))
      (λ y m. let o = mem-joined-cases kids (path r) m in (kid o.0 y (on o.0 o.1) o.2).0)

  -- the list of a node itself is the first of them
  own-list : {x : ℕ} (r : Ends t.parent x) → length (kids x) ≤ length (joined kids (path r))
  unfolding path
  own-list {x} (Ends.top e) = omega (arith, length-append (kids x) [])
  own-list {x} (Ends.up q e r) = omega (arith, length-append (kids x) (joined kids (path r)))

  lists-up : (x q : ℕ) (e : t.parent x ≡ Some q) (r : Ends t.parent q) → length (joined kids (path (Ends.up q e r))) ≡ length (kids x) + length (joined kids (path r))
  unfolding path
  lists-up x q e r = length-append (kids x) (joined kids (path r))

  -- the lists above x fit into the room
  abbrev Roomy : ℕ → ℕ → Type 0
  Roomy room x = (r : Ends t.parent x) → length (joined kids (path r)) ≤ room + length (kids x)

  -- the node that follows is the first of what is behind
  following-found : (f room : ℕ) (p : Position) → p.zone ≡ hs z → {x : ℕ} (r : Below t.parent z x) → t.live x ≡ true → (rx : Ends t.parent x) → steps rx ≤ f → Roomy room x
      → Outcome p (following f room d p (hs x)) (up t z r)
  unfolding seek
  following-found zero room p ez r lx rx h g = absurd (let s = some-steps rx in omega arith)
  following-found (suc f) room p ez {x} (Below.here e) lx rx h g = inl (rw (eq-eqb (hs x) p.zone (ap hs e ∙ sym ez)), here-up x e)
  following-found (suc f) room p ez {x} (Below.down q e r) lx rx h g =
      other p (following (suc f) room d p (hs x)) (resumed above-it turn) (up t z (Below.down q e r)) (behind x l ++ up t z r) way (down-up q x e r)
      (go (λ rq i. following-found f (room - length (map hs l)) p ez r lq rq i roomy) (dec_lt (suc k) (length l)))
    where
      lq : t.live q ≡ true
      lq = (W.upward x q lx e).0

      l : List ℕ
      l = kids q

      k : ℕ
      k = index_of (eqb x) l

      u : Distinct l
      u = W.once children q lq

      apart : (y : ℕ) → Memᴰ y l → hs x ≡ hs y → x ≡ y
      apart y m g = hs-injective d t hs S x y lx (kid q y lq m).0 g

      shown : shown_list d children (hs q) ≡ map hs l
      shown = shown-list d t hs S children q lq

      hint : (g : ℕ) → hinted_index (map hs l) (hs x) g ≡ k
      hint g =
          hinted-is (map hs l) (hs x) g (distinct-map hs l (λ a b ma mb i. hs-injective d t hs S a b (kid q a lq ma).0 (kid q b lq mb).0 i) u)
          ∙ index-map hs l x apart

      not-zone : eqb (hs x) p.zone ≡ false
      not-zone = ne_eqb (hs x) p.zone (λ g. strict W z x q lz lq e r (hs-injective d t hs S x z lx lz (g ∙ ez)))

      -- the lists from q on fit into the room
      above : (rq : Ends t.parent q) → length (joined kids (path rq)) ≤ room
      above rq = omega (arith, g (Ends.up q e rq), lists-up x q e rq)

      fits : length (map hs l) ≤ room
      fits = let rq = W.ends q lq in omega (arith, above rq, own-list rq, length-map l hs)

      roomy : Roomy (room - length (map hs l)) q
      roomy rq = omega (arith, above rq, fits, length-map l hs)

      above-it : ℕ → ℕ → Option Position
      above-it y rest = following f rest d p y

      turn : Sought
      turn = cond (ltb (suc k) (length (map hs l))) (Break (visit_entry d p (hs q) (map hs l) (suc k))) (Continue (record { node = hs q; room = room - length (map hs l) }))

      way : following (suc f) room d p (hs x) ≡ resumed above-it turn
      way = rw (not-zone, parent-shown x q lx e, shown, resolves-live d t hs S q lq, le-leb (length (map hs l)) room fits, hint (hint_for p.hints (length (map hs l))))

      go : ((rq : Ends t.parent q) → steps rq ≤ f → Outcome p (following f (room - length (map hs l)) d p (hs q)) (up t z r)) → Dec (suc k < length l)
          → Outcome p (resumed above-it turn) (behind x l ++ up t z r)
      go ih (yes b) =
          let m : suc k < length (map hs l) = omega (arith, length-map l hs, b) in
          let s = behind-cons l x u b in
          other p (resumed above-it turn) (visit_entry d p (hs q) (map hs l) (suc k)) (behind x l ++ up t z r) (get_or l (suc k) 0 ∷ (behind (get_or l (suc k) 0) l ++ up t z r))
          (rw (lt-ltb (suc k) (length (map hs l)) m) refl) (ap (λ (v : List ℕ). v ++ up t z r) s) (visits-in p q (suc k) lq r b)
      go ih (no b) =
          let m : length (map hs l) ≤ suc k = omega (arith, length-map l hs, b) in
          let s = behind-nil l x (omega arith) in
          let rq = W.ends q lq in
          let v = steps-unique rx (Ends.up q e rq) refl in
          let w = steps_up q x rq e in
          other p (resumed above-it turn) (following f (room - length (map hs l)) d p (hs q)) (behind x l ++ up t z r) (up t z r)
          (rw (le-ltb (suc k) (length (map hs l)) m)) (ap (λ (v : List ℕ). v ++ up t z r) s) (ih rq (omega arith))

  -- one step
  stepped : (p : Position) → p.zone ≡ hs z → (x : ℕ) → p.node ≡ hs x → (r : Below t.parent z x) → t.live x ≡ true → 0 < min p.left d.limits.nodes
      → Outcome p (next d p) (kids x ++ up t z r)
  stepped p ez x ex r lx h =
      other p (next d p) (cond (ltb 0 (length (map hs l))) (visit_entry d p (hs x) (map hs l) 0) (following (length d.gens) (length d.gens) d p (hs x))) (kids x ++ up t z r) (kids x ++ up t z r) way refl (go (dec_lt 0 (length l)))
    where
      l : List ℕ
      l = kids x

      shown : shown_list d children (hs x) ≡ map hs l
      shown = shown-list d t hs S children x lx

      successor : List ℕ → ℕ → Option Position
      successor v m = cond (ltb 0 (length v)) (visit_entry d p m v 0) (following (length d.gens) (length d.gens) d p m)

      tested : (ltb 0 (min p.left d.limits.nodes) && resolves d (hs x)) ≡ true
      tested = rw (lt-ltb 0 (min p.left d.limits.nodes) h, resolves-live d t hs S x lx)

      way : next d p ≡ successor (map hs l) (hs x)
      way =
          ap (λ (m : ℕ). cond (ltb 0 (min p.left d.limits.nodes) && resolves d m) (successor (shown_list d children m) m) None) ex
          ∙ ap (λ (q : Bool). cond q (successor (shown_list d children (hs x)) (hs x)) None) tested
          ∙ ap (λ (v : List ℕ). successor v (hs x)) shown

      go : Dec (0 < length l) → Outcome p (cond (ltb 0 (length (map hs l))) (visit_entry d p (hs x) (map hs l) 0) (following (length d.gens) (length d.gens) d p (hs x))) (kids x ++ up t z r)
      go (yes b) =
          let m : 0 < length (map hs l) = omega (arith, length-map l hs, b) in
          other p _ (visit_entry d p (hs x) (map hs l) 0) (kids x ++ up t z r) (get_or l 0 0 ∷ (behind (get_or l 0 0) l ++ up t z r))
          (rw (lt-ltb 0 (length (map hs l)) m)) (ap (λ (v : List ℕ). v ++ up t z r) (behind-first l (W.once children x lx) b)) (visits-in p x 0 lx r b)
      go (no b) =
          let m : length (map hs l) ≤ 0 = omega (arith, length-map l hs, b) in
          let rx = W.ends x lx in
          let g = slots-enough S (path rx) (path-distinct rx) (path-live (nested W) rx lx) in
          other p _ (following (length d.gens) (length d.gens) d p (hs x)) (kids x ++ up t z r) (up t z r)
          (rw (le-ltb 0 (length (map hs l)) m)) (ap (λ (v : List ℕ). v ++ up t z r) (empty l (omega arith))) (following-found (length d.gens) (length d.gens) p ez r lx rx (omega (arith, g, length-path rx)) (λ ry. omega (arith, path-lists ry lx)))
        where
          empty : (v : List ℕ) → length v ≤ 0 → v ≡ []
          empty [] e = refl
          empty (y ∷ v) e = absurd (omega arith)

  -- the steps from a position on
  pub listed-from : (n : ℕ) (p : Position) → p.zone ≡ hs z → (x : ℕ) → p.node ≡ hs x → (r : Below t.parent z x) → t.live x ≡ true → n ≤ min p.left d.limits.nodes
      → list_from n d p ≡ map hs (walk kids n (kids x ++ up t z r))
  listed-from zero p ez x ex r lx h = refl
  listed-from (suc n) p ez x ex r lx h = go (stepped p ez x ex r lx (omega arith)) (λ q a y b s c i. listed-from n q a y b s c i)
    where
      go : Outcome p (next d p) (kids x ++ up t z r)
          → ((q : Position) → q.zone ≡ hs z → (y : ℕ) → q.node ≡ hs y → (s : Below t.parent z y) → t.live y ≡ true → n ≤ min q.left d.limits.nodes → list_from n d q ≡ map hs (walk kids n (kids y ++ up t z s)))
          → listed (λ q. list_from n d q) (next d p) ≡ map hs (walk kids (suc n) (kids x ++ up t z r))
      go (inl o) ih = ap (listed (λ q. list_from n d q)) o.0 ∙ sym (ap (λ (v : List ℕ). map hs (walk kids (suc n) v)) o.1)
      go (inr w) ih =
          ap (listed (λ q. list_from n d q)) w.is
          ∙ ap₂ ◌∷◌ w.node (ih w.to (w.zone ∙ ez) w.here w.node w.way w.lives (room w.count))
          ∙ sym (ap (λ (v : List ℕ). map hs (walk kids (suc n) v)) w.stack)
        where
          room : w.to.left ≡ min p.left d.limits.nodes - 1 → n ≤ min w.to.left d.limits.nodes
          room c = omega arith

  -- ---- the whole walk

  taller : (f x : ℕ) → Tall kids f x → Tall kids (suc f) x
  taller zero x h = absurd h
  taller (suc f) x h = λ y m. taller f y (h y m)

  joined-nil : (l : List ℕ) → joined (λ (y : ℕ). visit kids 0 y) l ≡ []
  joined-nil [] = refl
  joined-nil (x ∷ l) = joined-nil l

  below-visit : (f x : ℕ) → joined (λ y. visit kids f y) (kids x) ≡ below f kids x
  below-visit zero x = joined-nil (kids x)
  below-visit (suc f) x = each (λ y. below-visit f y) (kids x)
    where
      each : ((y : ℕ) → joined (λ z. visit kids f z) (kids y) ≡ below f kids y) → (l : List ℕ) → joined (λ y. visit kids (suc f) y) l ≡ joined (λ y. y ∷ below f kids y) l
      each ih [] = refl
      each ih (y ∷ l) = ap₂ (λ (u v : List ℕ). (y ∷ u) ++ v) (ih y) (each ih l)

  pub walked_all : walked d (hs z) ≡ map hs (descendants t z)
  walked_all =
      let n : ℕ = d.limits.nodes in
      let b : ℕ = t.births in
      let h = taller b z (tall (nested W) kids kid z lz) in
      let k = slots-enough S (visit kids (suc b) z) (visit-distinct (nested W) kids kid (λ x lx. W.once children x lx) (suc b) z lz) (λ y m. (visited (nested W) kids kid (suc b) z lz y m).0) in
      let e : walk kids (suc n) (z ∷ []) ≡ visit kids (suc b) z = walk-is-visit kids (suc b) (suc n) z h (omega (arith, k, S.within.slots)) in
      listed-from n (start n (hs z)) refl z refl (Below.here refl) lz (omega arith)
      ∙ ap (λ (l : List ℕ). map hs (walk kids n (kids z ++ l))) (here-up z refl)
      ∙ ap (map hs) (ap (drop 1) e ∙ below-visit b z)

  -- "each node once"
  pub descendants-once : Distinct (descendants t z)
  descendants-once =
      subst Distinct (below-visit t.births z)
      (visit-distinct (nested W) kids kid (λ x lx. W.once children x lx) (suc t.births) z lz).1

  lists-live : (y : ℕ) → Memᴰ y (descendants t z) → t.live y ≡ true
  lists-live y m =
      (visited (nested W) kids kid (suc t.births) z lz y (Memᴰ.tail (subst (λ (l : List ℕ). Memᴰ y l) (sym (below-visit t.births z)) m))).0

  pub handles-once : (h : ℕ) → count_of (eqb h) (map hs (descendants t z)) ≤ 1
  handles-once h =
      (distinct-count h (map hs (descendants t z))
      (distinct-map hs (descendants t z) (λ a b ma mb e. hs-injective d t hs S a b (lists-live a ma) (lists-live b mb) e) descendants-once))
