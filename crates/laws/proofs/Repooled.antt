-- Rule 8 when one node's text slots change: the pool as a text is stored or replaced, and every other node's texts.
-- Assumes nothing.
use Rattle.std.proofs.lemmas.Option.{none-some, same_Some}
use Rattle.std.specs.Prelude.{Option, None, Some}
use mathlib.Core.Path.{◌≡◌, refl, sym, ap, ◌∙◌, subst}
use mathlib.Core.Logic.{◌≢◌, ◌⊎◌, inl, inr}
use mathlib.Core.List.Memᴰ
use mathlib.Core.List.{List, [], ◌∷◌, ◌++◌, Memᴰ}
use Prim.Native.Nat.{ℕ, ◌+◌, ◌≤◌, ◌<◌}
use native.Mathlib.Omega.{arith}
use native.Mathlib.Decide.{ℕ_discrete}
use lib.ListN.{length, get_or, set, length-append, length-set}
use lib.Seq.{get_or-set_other}
use Rattle.texts.specs.Pool.{Pool, text_at, next_slot_from, stored_slot, stored, replaced}
use Rattle.texts.specs.Rule.{FreeTexts}
use Rattle.texts.proofs.Pool.{stored-empty, stored-new, stored-reused}
use Rattle.model.specs.Doc.{Doc}
use Rattle.model.specs.Rules.{slots_held}
use Rattle.model.specs.Tree.{Tree}
use Rattle.laws.proofs.Wf.{Distinct}
use Rattle.laws.proofs.Sim.{Pooled}
use Rattle.laws.proofs.Membership.{distinct_append}
use Rattle.laws.proofs.Basics.{get_or-snoc-other, count-mem}

-- the free text list: slots made, empty, each once
pub record FreeOnce (p : Pool) : Type 0 where
  pub inside : (s : ℕ) → Memᴰ s p.free → s < length p.texts
  pub empty : (s : ℕ) → Memᴰ s p.free → get_or p.texts s [] ≡ []
  pub once : Distinct p.free

pub free-texts : (p : Pool) → FreeOnce p → FreeTexts p
free-texts p f = record { inside = λ s c. f.inside s (count-mem s p.free c); empty = λ s c. f.empty s (count-mem s p.free c) }

pub free-once : (d : Doc) (t : Tree) (hs : ℕ → ℕ) → Pooled d t hs → FreeOnce d.pool
free-once d t hs P = record { inside = λ s m. (P.free_inside s m).0; empty = λ s m. (P.free_inside s m).1; once = P.free_once }

-- slots that a node may hold: made, not free, each once
pub record Holds (p : Pool) (l : List ℕ) : Type 0 where
  pub inside : (s : ℕ) → Memᴰ s l → s < length p.texts
  pub not_free : (s : ℕ) → Memᴰ s l → Memᴰ s p.free → ⊥
  pub once : Distinct l

pub holds-none : (p : Pool) → Holds p []
holds-none p = record { inside = λ s m. absurd (Memᴰ.not-nil m); not_free = λ s m. absurd (Memᴰ.not-nil m); once = tt }

-- A node that held the slots old holds the slots new: each new one was free or not yet made. Every other slot is as it was, and its text too
-- unless it is the one whose text was replaced.
pub record Repooled (p p' : Pool) (old new : List ℕ) (changed : Option ℕ) : Type 0 where
  pub holds : Holds p' new
  pub free : FreeOnce p'
  pub grows : length p.texts ≤ length p'.texts
  pub origin : (s : ℕ) → Memᴰ s new → Memᴰ s old ⊎ (Memᴰ s p.free ⊎ (length p.texts ≤ s))
  pub kept : (s : ℕ) → Memᴰ s old → Memᴰ s new
  pub free_old : (s : ℕ) → Memᴰ s p'.free → Memᴰ s p.free
  pub covers : (s : ℕ) → s < length p'.texts → Memᴰ s p'.free ⊎ (Memᴰ s new ⊎ ((s < length p.texts) × (Memᴰ s p.free → ⊥)))
  pub mine : (s : ℕ) → changed ≡ Some s → Memᴰ s old
  pub same : (s : ℕ) → s < length p.texts → (Memᴰ s p.free → ⊥) → (changed ≡ Some s → ⊥) → text_at p' (Some s) ≡ text_at p (Some s)

-- ---- the edits of the pool

decide-mem : (s : ℕ) (l : List ℕ) → Memᴰ s l ⊎ (Memᴰ s l → ⊥)
decide-mem s [] = inr (λ m. Memᴰ.not-nil m)
decide-mem s (x ∷ l) = go (ℕ_discrete s x) (decide-mem s l)
  where
    both : s ≢ x → (Memᴰ s l → ⊥) → (s ≡ x) ⊎ Memᴰ s l → ⊥
    both n h (inl e) = n e
    both n h (inr m) = h m

    go : Dec (s ≡ x) → Memᴰ s l ⊎ (Memᴰ s l → ⊥) → Memᴰ s (x ∷ l) ⊎ (Memᴰ s (x ∷ l) → ⊥)
    go (yes e) ih = inl (Memᴰ.head e)
    go (no n) (inl m) = inl (Memᴰ.tail m)
    go (no n) (inr h) = inr (λ m. both n h (Memᴰ.cases_cons m))

-- no slot changes
pub repooled-same : (p : Pool) (l : List ℕ) → FreeOnce p → Holds p l → Repooled p p l l None
repooled-same p l F H =
    record {
      holds = H;
      free = F;
      grows = omega arith;
      origin = λ s m. inl m;
      kept = λ s m. m;
      free_old = λ s m. m;
      covers = λ s lt. go s lt (decide-mem s p.free);
      mine = λ s e. absurd (none-some s e);
      same = λ s lt n e. refl;
    }
  where
    go : (s : ℕ) → s < length p.texts → Memᴰ s p.free ⊎ (Memᴰ s p.free → ⊥)
        → Memᴰ s p.free ⊎ (Memᴰ s l ⊎ ((s < length p.texts) × (Memᴰ s p.free → ⊥)))
    go s lt (inl m) = inl m
    go s lt (inr n) = inr (inr (lt, n))

-- two changes of one node are one
pub repooled-then : (p q r : Pool) (old mid new : List ℕ) → Repooled p q old mid None → Repooled q r mid new None → Repooled p r old new None
repooled-then p q r old mid new A B =
    record {
      holds = B.holds;
      free = B.free;
      grows = omega (arith, A.grows, B.grows);
      origin = λ s m. origin s (B.origin s m);
      kept = λ s m. B.kept s (A.kept s m);
      free_old = λ s m. A.free_old s (B.free_old s m);
      covers = λ s lt. covers s (B.covers s lt);
      mine = λ s e. absurd (none-some s e);
      same = λ s lt n e. B.same s (omega (arith, A.grows)) (λ m. n (A.free_old s m)) e ∙ A.same s lt n e;
    }
  where
    origin : (s : ℕ) → Memᴰ s mid ⊎ (Memᴰ s q.free ⊎ (length q.texts ≤ s)) → Memᴰ s old ⊎ (Memᴰ s p.free ⊎ (length p.texts ≤ s))
    origin s (inl m) = A.origin s m
    origin s (inr (inl m)) = inr (inl (A.free_old s m))
    origin s (inr (inr h)) = inr (inr (omega (arith, A.grows)))

    first : (s : ℕ) → (Memᴰ s q.free → ⊥) → Memᴰ s q.free ⊎ (Memᴰ s mid ⊎ ((s < length p.texts) × (Memᴰ s p.free → ⊥)))
        → Memᴰ s new ⊎ ((s < length p.texts) × (Memᴰ s p.free → ⊥))
    first s n (inl m) = absurd (n m)
    first s n (inr (inl m)) = inl (B.kept s m)
    first s n (inr (inr h)) = inr h

    covers : (s : ℕ) → Memᴰ s r.free ⊎ (Memᴰ s new ⊎ ((s < length q.texts) × (Memᴰ s q.free → ⊥)))
        → Memᴰ s r.free ⊎ (Memᴰ s new ⊎ ((s < length p.texts) × (Memᴰ s p.free → ⊥)))
    covers s (inl m) = inl m
    covers s (inr (inl m)) = inr (inl m)
    covers s (inr (inr h)) = inr (first s h.1 (A.covers s h.0))

-- a text that takes a new slot
module _ (p : Pool) (b : ℕ) (t : List ℕ) (l : List ℕ) (F : FreeOnce p) (H : Holds p l) where
  -- the slot taken stands after those held
  one-more : (p' : Pool) (x : ℕ) → (Memᴰ x l → ⊥) → x < length p'.texts → (Memᴰ x p'.free → ⊥) → length p.texts ≤ length p'.texts
      → ((s : ℕ) → Memᴰ s p'.free → Memᴰ s p.free) → Holds p' (l ++ (x ∷ []))
  one-more p' x fresh lt nf grow old =
      record {
        inside = λ s m. inside s (Memᴰ.append_cases l m);
        not_free = λ s m. not_free s (Memᴰ.append_cases l m);
        once = distinct_append l (x ∷ []) H.once ((λ m. Memᴰ.not-nil m), tt) (λ y m n. fresh (subst (λ (z : ℕ). Memᴰ z l) (only y n) m));
      }
    where
      only : (y : ℕ) → Memᴰ y (x ∷ []) → y ≡ x
      only y m = go (Memᴰ.cases_cons m)
        where
          go : (y ≡ x) ⊎ Memᴰ y [] → y ≡ x
          go (inl e) = e
          go (inr n) = absurd (Memᴰ.not-nil n)

      inside : (s : ℕ) → Memᴰ s l ⊎ Memᴰ s (x ∷ []) → s < length p'.texts
      inside s (inl m) = omega (arith, H.inside s m)
      inside s (inr m) = rw (only s m) lt

      not_free : (s : ℕ) → Memᴰ s l ⊎ Memᴰ s (x ∷ []) → Memᴰ s p'.free → ⊥
      not_free s (inl m) n = H.not_free s m (old s n)
      not_free s (inr m) n = nf (subst (λ (z : ℕ). Memᴰ z p'.free) (only s m) n)

  -- where the slots after it come from
  one-origin : (x : ℕ) → Memᴰ x p.free ⊎ (length p.texts ≤ x) → (s : ℕ) → Memᴰ s (l ++ (x ∷ []))
      → Memᴰ s l ⊎ (Memᴰ s p.free ⊎ (length p.texts ≤ s))
  one-origin x o s m = go (Memᴰ.append_cases l m)
    where
      here : (s ≡ x) ⊎ Memᴰ s [] → Memᴰ s p.free ⊎ (length p.texts ≤ s)
      here (inl e) = subst (λ (z : ℕ). Memᴰ z p.free ⊎ (length p.texts ≤ z)) (sym e) o
      here (inr n) = absurd (Memᴰ.not-nil n)

      go : Memᴰ s l ⊎ Memᴰ s (x ∷ []) → Memᴰ s l ⊎ (Memᴰ s p.free ⊎ (length p.texts ≤ s))
      go (inl n) = inl n
      go (inr n) = inr (here (Memᴰ.cases_cons n))

  new-slot : p.free ≡ [] → Repooled p (record { texts = p.texts ++ ((b ∷ t) ∷ []); free = [] }) l (l ++ (length p.texts ∷ [])) None
  new-slot e =
      record {
        holds = one-more p' x (λ m. absurd (omega (arith, H.inside x m))) (omega (arith, size)) none_free (omega (arith, size)) (λ s m. absurd (Memᴰ.not-nil m));
        free = record { inside = λ s m. absurd (Memᴰ.not-nil m); empty = λ s m. absurd (Memᴰ.not-nil m); once = tt };
        grows = omega (arith, size);
        origin = one-origin x (inr (omega arith));
        kept = λ s m. Memᴰ.append_left (x ∷ []) m;
        free_old = λ s m. absurd (Memᴰ.not-nil m);
        covers = λ s lt. covers s lt (ℕ_discrete s x);
        mine = λ s q. absurd (none-some s q);
        same = λ s lt n q. get_or-snoc-other p.texts (b ∷ t) [] s (λ f. omega arith);
      }
    where
      x : ℕ
      x = length p.texts

      p' : Pool
      p' = record { texts = p.texts ++ ((b ∷ t) ∷ []); free = [] }

      size : length (p.texts ++ ((b ∷ t) ∷ [])) ≡ x + 1
      size = length-append p.texts ((b ∷ t) ∷ [])

      none_free : Memᴰ x [] → ⊥
      none_free m = Memᴰ.not-nil m

      covers : (s : ℕ) → s < length (p.texts ++ ((b ∷ t) ∷ [])) → Dec (s ≡ x)
          → Memᴰ s [] ⊎ (Memᴰ s (l ++ (x ∷ [])) ⊎ ((s < x) × (Memᴰ s p.free → ⊥)))
      covers s lt (yes f) = inr (inl (Memᴰ.append_right l (Memᴰ.head f)))
      covers s lt (no n) = inr (inr (omega (arith, size), λ m. Memᴰ.not-nil (subst (λ (f : List ℕ). Memᴰ s f) e m)))

  used-slot : (x : ℕ) (f : List ℕ) → p.free ≡ x ∷ f → Repooled p (record { texts = set p.texts x (b ∷ t); free = f }) l (l ++ (x ∷ [])) None
  used-slot x f e =
      record {
        holds = one-more p' x (λ m. H.not_free x m here) (simp length-set (F.inside x here)) once.0 (simp length-set (omega arith)) old;
        free = record {
          inside = λ s m. simp length-set (F.inside s (old s m));
          empty = λ s m. get_or-set_other p.texts x s (b ∷ t) [] (λ q. once.0 (subst (λ (z : ℕ). Memᴰ z f) q m)) ∙ F.empty s (old s m);
          once = once.1;
        };
        grows = simp length-set (omega arith);
        origin = one-origin x (inl here);
        kept = λ s m. Memᴰ.append_left (x ∷ []) m;
        free_old = old;
        covers = λ s lt. covers s (simp length-set at lt) (decide-mem s (x ∷ f));
        mine = λ s q. absurd (none-some s q);
        same = λ s lt n q. get_or-set_other p.texts x s (b ∷ t) [] (λ r. n (subst (λ (z : ℕ). Memᴰ z p.free) (sym r) here));
      }
    where
      p' : Pool
      p' = record { texts = set p.texts x (b ∷ t); free = f }

      here : Memᴰ x p.free
      here = subst (λ (g : List ℕ). Memᴰ x g) (sym e) (Memᴰ.head refl)

      once : Distinct (x ∷ f)
      once = subst Distinct e F.once

      old : (s : ℕ) → Memᴰ s f → Memᴰ s p.free
      old s m = subst (λ (g : List ℕ). Memᴰ s g) (sym e) (Memᴰ.tail m)

      split : (s : ℕ) → (s ≡ x) ⊎ Memᴰ s f → Memᴰ s f ⊎ (Memᴰ s (l ++ (x ∷ [])) ⊎ ((s < length p.texts) × (Memᴰ s p.free → ⊥)))
      split s (inl q) = inr (inl (Memᴰ.append_right l (Memᴰ.head q)))
      split s (inr m) = inl m

      covers : (s : ℕ) → s < length p.texts → Memᴰ s (x ∷ f) ⊎ (Memᴰ s (x ∷ f) → ⊥)
          → Memᴰ s f ⊎ (Memᴰ s (l ++ (x ∷ [])) ⊎ ((s < length p.texts) × (Memᴰ s p.free → ⊥)))
      covers s lt (inl m) = split s (Memᴰ.cases_cons m)
      covers s lt (inr n) = inr (inr (lt, λ m. n (subst (λ (g : List ℕ). Memᴰ s g) e m)))

-- ---- a stored text, after the fields that the node has already

pub held-snoc : (l : List (Option ℕ)) (o : Option ℕ) → slots_held (l ++ (o ∷ [])) ≡ slots_held l ++ slots_held (o ∷ [])
held-snoc [] o = refl
held-snoc (None ∷ l) o = held-snoc l o
held-snoc (Some s ∷ l) o = ap (λ (m : List ℕ). s ∷ m) (held-snoc l o)

pub append-none : (l : List ℕ) → l ++ [] ≡ l
append-none [] = refl
append-none (x ∷ l) = ap (λ (m : List ℕ). x ∷ m) (append-none l)

pub stored-repooled : (p : Pool) (t : List ℕ) (l : List (Option ℕ)) → FreeOnce p → Holds p (slots_held l)
    → Repooled p (stored p t) (slots_held l) (slots_held (l ++ (stored_slot p t ∷ []))) None
stored-repooled p [] l F H =
    rw (stored-empty p, held-snoc l None, append-none (slots_held l)) (repooled-same p (slots_held l) F H)
stored-repooled p (b ∷ t) l F H = rw (held-snoc l (stored_slot p (b ∷ t))) (go p.free refl)
  where
    go : (f : List ℕ) → p.free ≡ f → Repooled p (stored p (b ∷ t)) (slots_held l) (slots_held l ++ slots_held (stored_slot p (b ∷ t) ∷ [])) None
    go [] e = rw (stored-new p b t e, ap (λ (f : List ℕ). next_slot_from f p) e) (new-slot p b t (slots_held l) F H e)
    go (x ∷ f) e = rw (stored-reused p b t x f e, ap (λ (g : List ℕ). next_slot_from g p) e) (used-slot p b t (slots_held l) F H x f e)

-- a text replaced in its slot
pub replaced-repooled : (p : Pool) (x : ℕ) (t : List ℕ) (l : List ℕ) → FreeOnce p → Holds p l → Memᴰ x l → Repooled p (replaced p (Some x) t) l l (Some x)
unfolding replaced
replaced-repooled p x t l F H here =
    record {
      holds = record { inside = λ s m. simp length-set (H.inside s m); not_free = H.not_free; once = H.once };
      free = record {
        inside = λ s m. simp length-set (F.inside s m);
        empty = λ s m. get_or-set_other p.texts x s t [] (λ q. H.not_free x here (subst (λ (z : ℕ). Memᴰ z p.free) q m)) ∙ F.empty s m;
        once = F.once;
      };
      grows = simp length-set (omega arith);
      origin = λ s m. inl m;
      kept = λ s m. m;
      free_old = λ s m. m;
      covers = λ s lt. covers s (simp length-set at lt) (decide-mem s p.free);
      mine = λ s q. subst (λ (z : ℕ). Memᴰ z l) (same_Some x s q) here;
      same = λ s lt n q. get_or-set_other p.texts x s t [] (λ r. q (ap Some (sym r)));
    }
  where
    covers : (s : ℕ) → s < length p.texts → Memᴰ s p.free ⊎ (Memᴰ s p.free → ⊥)
        → Memᴰ s p.free ⊎ (Memᴰ s l ⊎ ((s < length p.texts) × (Memᴰ s p.free → ⊥)))
    covers s lt (inl m) = inl m
    covers s lt (inr n) = inr (inr (lt, n))
