-- A walk with a stack that visits each node once: what was visited and what is on the stack are distinct, so that the stack has room.
-- Assumes nothing.
use Rattle.std.proofs.lemmas.Option.{same_Some}
use Rattle.std.specs.Prelude.{Option, Some}
use mathlib.Core.Path.{◌≡◌, refl, sym, ◌∙◌, subst}
use mathlib.Core.Logic.{◌⊎◌, inl, inr}
use mathlib.Core.List.Memᴰ
use mathlib.Core.List.{List, [], ◌∷◌, ◌++◌, map, Memᴰ}
use Prim.Native.Nat.{ℕ, ◌+◌, ◌≤◌, ◌<◌}
use native.Mathlib.Omega.{arith}
use lib.ListN.{length, length-append, length-map}
use Rattle.laws.proofs.Wf.{Distinct}
use Rattle.laws.proofs.Membership.{mem-map-cases, distinct_append, distinct-map, pigeonhole}

-- a walk from several tops, one after another
module _ (next : ℕ → List ℕ) (Live : ℕ → Type 0) (parent : ℕ → Option ℕ) where
  module _ (Top : ℕ → Type 0) where
    -- what follows a node has it as parent, each once, and is no top
    pub record Branching : Type 0 where
      pub child : (x c : ℕ) → Live x → Memᴰ c (next x) → Live c × (parent c ≡ Some x) × (Top c → ⊥)
      pub once : (x : ℕ) → Live x → Distinct (next x)

    -- the top of the stack stands first; what was met is a top, or follows a node that was visited
    pub record VisitingFrom (count : ℕ) (stack : List ℕ) : Type 0 where
      pub visited : List ℕ
      pub counted : length visited ≡ count
      pub visited-once : Distinct visited
      pub stack-once : Distinct stack
      pub apart : (y : ℕ) → Memᴰ y visited → Memᴰ y stack → ⊥
      pub live : (y : ℕ) → Memᴰ y visited ⊎ Memᴰ y stack → Live y
      pub pushed : (y : ℕ) → Memᴰ y visited ⊎ Memᴰ y stack → Top y ⊎ ((p : ℕ) × Memᴰ p visited × (parent y ≡ Some p))
      pub closed : (x y : ℕ) → Memᴰ x visited → Memᴰ y (next x) → Memᴰ y visited ⊎ Memᴰ y stack

    pub visiting-none : VisitingFrom 0 []
    visiting-none = record {
      visited = [];
      counted = refl;
      visited-once = tt;
      stack-once = tt;
      apart = λ y m q. Memᴰ.not-nil m;
      live = λ y m. absurd (nothing y m);
      pushed = λ y m. absurd (nothing y m);
      closed = λ x y m q. absurd (Memᴰ.not-nil m);
    }
      where
        nothing : (y : ℕ) → Memᴰ y [] ⊎ Memᴰ y [] → ⊥
        nothing y (inl m) = Memᴰ.not-nil m
        nothing y (inr m) = Memᴰ.not-nil m

    module _ (n : Branching) (count x : ℕ) (s : List ℕ) (v : VisitingFrom count (x ∷ s)) where
      lx : Live x
      lx = v.live x (inr (Memᴰ.head refl))

      -- what follows x was not met before
      fresh : (y : ℕ) → Memᴰ y (next x) → Memᴰ y v.visited ⊎ Memᴰ y (x ∷ s) → ⊥
      fresh y m o = go (v.pushed y o)
        where
          c : Live y × (parent y ≡ Some x) × (Top y → ⊥)
          c = n.child x y lx m

          go : Top y ⊎ ((p : ℕ) × Memᴰ p v.visited × (parent y ≡ Some p)) → ⊥
          go (inl e) = c.2 e
          go (inr q) =
              let e : q.0 ≡ x = same_Some q.0 x (sym q.2 ∙ c.1) in
              v.apart x (subst (λ (z : ℕ). Memᴰ z v.visited) e q.1) (Memᴰ.head refl)

      pub visited-next : VisitingFrom (1 + count) (next x ++ s)
      visited-next = record {
        visited = x ∷ v.visited;
        counted = let e = v.counted in omega arith;
        visited-once = ((λ m. v.apart x m (Memᴰ.head refl)), v.visited-once);
        stack-once = distinct_append (next x) s (n.once x lx) v.stack-once.1 (λ y m q. fresh y m (inr (Memᴰ.tail q)));
        apart = λ y m q. apart_next y (Memᴰ.cases_cons m) (Memᴰ.append_cases (next x) q);
        live = λ y m. live-next y (sides y m);
        pushed = λ y m. pushed-next y (sides y m);
        closed = λ z y m q. closed-next z y (Memᴰ.cases_cons m) q;
      }
        where
          apart_next : (y : ℕ) → (y ≡ x) ⊎ Memᴰ y v.visited → Memᴰ y (next x) ⊎ Memᴰ y s → ⊥
          apart_next y (inl e) (inl m) = fresh y m (inr (Memᴰ.head e))
          apart_next y (inl e) (inr m) = v.stack-once.0 (subst (λ (z : ℕ). Memᴰ z s) e m)
          apart_next y (inr q) (inl m) = fresh y m (inl q)
          apart_next y (inr q) (inr m) = v.apart y q (Memᴰ.tail m)

          -- it follows x, or was met before
          old : (y : ℕ) → (y ≡ x) ⊎ Memᴰ y v.visited → Memᴰ y v.visited ⊎ Memᴰ y (x ∷ s)
          old y (inl e) = inr (Memᴰ.head e)
          old y (inr m) = inl m

          new : (y : ℕ) → Memᴰ y (next x) ⊎ Memᴰ y s → Memᴰ y (next x) ⊎ (Memᴰ y v.visited ⊎ Memᴰ y (x ∷ s))
          new y (inl m) = inl m
          new y (inr m) = inr (inr (Memᴰ.tail m))

          sides : (y : ℕ) → Memᴰ y (x ∷ v.visited) ⊎ Memᴰ y (next x ++ s) → Memᴰ y (next x) ⊎ (Memᴰ y v.visited ⊎ Memᴰ y (x ∷ s))
          sides y (inl m) = inr (old y (Memᴰ.cases_cons m))
          sides y (inr m) = new y (Memᴰ.append_cases (next x) m)

          live-next : (y : ℕ) → Memᴰ y (next x) ⊎ (Memᴰ y v.visited ⊎ Memᴰ y (x ∷ s)) → Live y
          live-next y (inl m) = (n.child x y lx m).0
          live-next y (inr o) = v.live y o

          kept : {y : ℕ} → Top y ⊎ ((p : ℕ) × Memᴰ p v.visited × (parent y ≡ Some p)) → Top y ⊎ ((p : ℕ) × Memᴰ p (x ∷ v.visited) × (parent y ≡ Some p))
          kept (inl e) = inl e
          kept (inr q) = inr (q.0, Memᴰ.tail q.1, q.2)

          pushed-next : (y : ℕ) → Memᴰ y (next x) ⊎ (Memᴰ y v.visited ⊎ Memᴰ y (x ∷ s)) → Top y ⊎ ((p : ℕ) × Memᴰ p (x ∷ v.visited) × (parent y ≡ Some p))
          pushed-next y (inl m) = inr (x, Memᴰ.head refl, (n.child x y lx m).1)
          pushed-next y (inr o) = kept (v.pushed y o)

          on_stack : (y : ℕ) → (y ≡ x) ⊎ Memᴰ y s → Memᴰ y (x ∷ v.visited) ⊎ Memᴰ y (next x ++ s)
          on_stack y (inl e) = inl (Memᴰ.head e)
          on_stack y (inr m) = inr (Memᴰ.append_right (next x) m)

          still : (y : ℕ) → Memᴰ y v.visited ⊎ Memᴰ y (x ∷ s) → Memᴰ y (x ∷ v.visited) ⊎ Memᴰ y (next x ++ s)
          still y (inl m) = inl (Memᴰ.tail m)
          still y (inr m) = on_stack y (Memᴰ.cases_cons m)

          closed-next : (z y : ℕ) → (z ≡ x) ⊎ Memᴰ z v.visited → Memᴰ y (next z) → Memᴰ y (x ∷ v.visited) ⊎ Memᴰ y (next x ++ s)
          closed-next z y (inl e) q = inr (Memᴰ.append_left s (subst (λ (k : ℕ). Memᴰ y (next k)) e q))
          closed-next z y (inr m) q = still y (v.closed z y m q)

    -- as many as there are numbers for them
    pub visited-fits : (number : ℕ → ℕ) (most : ℕ) → ((y : ℕ) → Live y → number y < most) → ((y z : ℕ) → Live y → Live z → number y ≡ number z → y ≡ z)
        → (count : ℕ) (stack : List ℕ) → VisitingFrom count stack → count + length stack ≤ most
    visited-fits number most below same count stack v =
        let all = v.visited ++ stack in
        let p = pigeonhole most (map number all)
        (distinct-map number all (λ a b ma mb e. same a b (v.live a (Memᴰ.append_cases v.visited ma)) (v.live b (Memᴰ.append_cases v.visited mb)) e)
        (distinct_append v.visited stack v.visited-once v.stack-once v.apart))
        (λ y m. numbered y m) in
        omega (arith, length-map all number, length-append v.visited stack, v.counted)
      where
        numbered : (y : ℕ) → Memᴰ y (map number (v.visited ++ stack)) → y < most
        numbered y m =
            let o = mem-map-cases number (v.visited ++ stack) m in
            subst (λ (z : ℕ). z < most) (sym o.2) (below o.0 (v.live o.0 (Memᴰ.append_cases v.visited o.1)))

    -- the next top, after all below the tops before was visited
    pub visiting-top : (count top : ℕ) (v : VisitingFrom count []) → Live top → Top top → (Memᴰ top v.visited → ⊥) → VisitingFrom count (top ∷ [])
    visiting-top count top v lt t new = record {
      visited = v.visited;
      counted = v.counted;
      visited-once = v.visited-once;
      stack-once = ((λ m. Memᴰ.not-nil m), tt);
      apart = λ y m q. new (subst (λ (z : ℕ). Memᴰ z v.visited) (one y (Memᴰ.cases_cons q)) m);
      live = live;
      pushed = pushed;
      closed = λ x y m q. before y (v.closed x y m q);
    }
      where
        one : (y : ℕ) → (y ≡ top) ⊎ Memᴰ y [] → y ≡ top
        one y (inl e) = e
        one y (inr q) = absurd (Memᴰ.not-nil q)

        before : (y : ℕ) → Memᴰ y v.visited ⊎ Memᴰ y [] → Memᴰ y v.visited ⊎ Memᴰ y (top ∷ [])
        before y (inl m) = inl m
        before y (inr m) = absurd (Memᴰ.not-nil m)

        live : (y : ℕ) → Memᴰ y v.visited ⊎ Memᴰ y (top ∷ []) → Live y
        live y (inl m) = v.live y (inl m)
        live y (inr m) = subst Live (sym (one y (Memᴰ.cases_cons m))) lt

        pushed : (y : ℕ) → Memᴰ y v.visited ⊎ Memᴰ y (top ∷ []) → Top y ⊎ ((p : ℕ) × Memᴰ p v.visited × (parent y ≡ Some p))
        pushed y (inl m) = v.pushed y (inl m)
        pushed y (inr m) = inl (subst Top (sym (one y (Memᴰ.cases_cons m))) t)

    pub visited-next-is : (n : Branching) (count x : ℕ) (s : List ℕ) (v : VisitingFrom count (x ∷ s)) → (visited-next n count x s v).visited ≡ x ∷ v.visited
    unfolding visited-next
    visited-next-is n count x s v = refl

    pub visiting-top-is : (count top : ℕ) (v : VisitingFrom count []) (lt : Live top) (t : Top top) (new : Memᴰ top v.visited → ⊥) → (visiting-top count top v lt t new).visited ≡ v.visited
    unfolding visiting-top
    visiting-top-is count top v lt t new = refl

    pub visiting-none-is : visiting-none.visited ≡ []
    unfolding visiting-none
    visiting-none-is = refl

  -- with more tops
  module _ (Top Top' : ℕ → Type 0) (more : (y : ℕ) → Top y → Top' y) (count : ℕ) (s : List ℕ) (v : VisitingFrom Top count s) where
    pub visiting-more : VisitingFrom Top' count s
    visiting-more = record {
      visited = v.visited;
      counted = v.counted;
      visited-once = v.visited-once;
      stack-once = v.stack-once;
      apart = v.apart;
      live = v.live;
      pushed = λ y m. old y (v.pushed y m);
      closed = v.closed;
    }
      where
        old : (y : ℕ) → Top y ⊎ ((p : ℕ) × Memᴰ p v.visited × (parent y ≡ Some p)) → Top' y ⊎ ((p : ℕ) × Memᴰ p v.visited × (parent y ≡ Some p))
        old y (inl k) = inl (more y k)
        old y (inr q) = inr q

    pub visiting-more-is : visiting-more.visited ≡ v.visited
    unfolding visiting-more
    visiting-more-is = refl

-- a walk from one top
module _ (next : ℕ → List ℕ) (Live : ℕ → Type 0) (parent : ℕ → Option ℕ) (top : ℕ) where
  -- what follows a node has it as parent, and is not the top
  pub record Nest : Type 0 where
    pub first : Live top
    pub child : (x c : ℕ) → Live x → Memᴰ c (next x) → Live c × (parent c ≡ Some x) × (c ≡ top → ⊥)
    pub once : (x : ℕ) → Live x → Distinct (next x)

  abbrev pub Visiting : ℕ → List ℕ → Type 0
  Visiting count stack = VisitingFrom next Live parent (λ y. y ≡ top) count stack

  branching : Nest → Branching next Live parent (λ y. y ≡ top)
  branching n = record { child = n.child; once = n.once }

  pub visiting-first : Nest → Visiting 0 (top ∷ [])
  unfolding visiting-none
  visiting-first n = visiting-top next Live parent (λ y. y ≡ top) 0 top (visiting-none next Live parent (λ y. y ≡ top)) n.first refl (λ m. Memᴰ.not-nil m)

  pub visiting-next : Nest → (count x : ℕ) (s : List ℕ) → Visiting count (x ∷ s) → Visiting (1 + count) (next x ++ s)
  visiting-next n count x s v = visited-next next Live parent (λ y. y ≡ top) (branching n) count x s v

  pub visiting-fits : (number : ℕ → ℕ) (most : ℕ) → ((y : ℕ) → Live y → number y < most) → ((y z : ℕ) → Live y → Live z → number y ≡ number z → y ≡ z)
      → (count : ℕ) (stack : List ℕ) → Visiting count stack → count + length stack ≤ most
  visiting-fits number most below same count stack v = visited-fits next Live parent (λ y. y ≡ top) number most below same count stack v
