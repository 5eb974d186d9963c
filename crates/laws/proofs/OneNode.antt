-- One node's text slots change, or a node is added: every other node's texts and names show what they showed, and rule 8 holds again.
-- Assumes nothing.
use Rattle.std.specs.Prelude.{Option, Some}
use mathlib.Core.Path.{◌≡◌, sym, ap, ◌∙◌, subst}
use mathlib.Core.Logic.{◌≢◌, ◌⊎◌, inl, inr}
use mathlib.Core.Bool.{true}
use mathlib.Core.List.{List, Memᴰ}
use Prim.Native.Nat.{ℕ, ◌≤◌, ◌<◌}
use native.Mathlib.Omega.{arith}
use native.Mathlib.Decide.{ℕ_discrete}
use lib.ListN.{length}
use Rattle.texts.specs.Pool.{text_at}
use Rattle.names.specs.Table.{name_at}
use Rattle.model.specs.Doc.{Doc, kind_at}
use Rattle.model.specs.Tree.{Tree}
use Rattle.laws.proofs.Wf.{Distinct}
use Rattle.laws.proofs.Sim.{Pooled, fields, Sim}
use Rattle.laws.proofs.Shown.{shown_by, texts-kept}
use Rattle.laws.proofs.Repooled.{Holds, Repooled}

-- the fields of a live node
pub holds-fields : (d : Doc) (t : Tree) (hs : ℕ → ℕ) → Pooled d t hs → (b : ℕ) → t.live b ≡ true → Holds d.pool (fields d (hs b))
holds-fields d t hs P b lb = record { inside = λ s m. P.inside b s lb m; not_free = λ s m. P.free_apart b s lb m; once = P.distinct b lb }

module _ (d : Doc) (t : Tree) (hs : ℕ → ℕ) (d' : Doc) (b : ℕ) (old new : List ℕ) (changed : Option ℕ)
    (R : Repooled d.pool d'.pool old new changed)
    -- what b held
    (mine : (s : ℕ) → Memᴰ s old → (t.live b ≡ true) × Memᴰ s (fields d (hs b)))
    (all : t.live b ≡ true → (s : ℕ) → Memᴰ s (fields d (hs b)) → Memᴰ s old) where
  -- another node's text
  pub other_text : Pooled d t hs → (a s : ℕ) → t.live a ≡ true → a ≢ b → Memᴰ s (fields d (hs a)) → text_at d'.pool (Some s) ≡ text_at d.pool (Some s)
  other_text P a s la n m =
      R.same s (P.inside a s la m) (λ f. P.free_apart a s la m f)
      (λ e. let o = mine s (R.mine s e) in n (P.single a b s la o.0 m o.1))

  pub other-shown : Sim d t hs → ((i : ℕ) → i < length d.names → name_at d'.names i ≡ name_at d.names i) → (a : ℕ) → t.live a ≡ true → a ≢ b
      → shown_by d'.names d'.pool (kind_at d (hs a)) ≡ t.kind a
  other-shown S kept a la n =
      texts-kept d.names d'.names d.pool d'.pool (kind_at d (hs a)) (λ i m. kept i (S.named a i la m))
      (λ s m. other_text S.pool a s la n m)
      ∙ S.kind a la

  pub pooled-changed : Pooled d t hs → (t' : Tree) → t'.live b ≡ true → fields d' (hs b) ≡ new
      → ((a : ℕ) → t'.live a ≡ true → a ≢ b → (t.live a ≡ true) × (fields d' (hs a) ≡ fields d (hs a)))
      → ((a : ℕ) → t.live a ≡ true → t'.live a ≡ true)
      → Pooled d' t' hs
  pooled-changed P t' lb' here was still =
      record {
        inside = λ a s la m. inside a s la m (ℕ_discrete a b);
        distinct = λ a la. distinct a la (ℕ_discrete a b);
        single = λ a c s la lc m n. single a c s la lc m n (ℕ_discrete a b) (ℕ_discrete c b);
        free_inside = λ s m. (R.free.inside s m, R.free.empty s m);
        free_once = R.free.once;
        free_apart = λ a s la m. free_apart a s la m (ℕ_discrete a b);
        covered = λ s lt. covered s (R.covers s lt);
      }
    where
      new-slot : (s : ℕ) → Memᴰ s (fields d' (hs b)) → Memᴰ s new
      new-slot s m = subst (λ (l : List ℕ). Memᴰ s l) here m

      at_b : (a s : ℕ) → a ≡ b → Memᴰ s (fields d' (hs a)) → Memᴰ s new
      at_b a s e m = new-slot s (subst (λ (c : ℕ). Memᴰ s (fields d' (hs c))) e m)

      old-slot : (a s : ℕ) (la : t'.live a ≡ true) → a ≢ b → Memᴰ s (fields d' (hs a)) → Memᴰ s (fields d (hs a))
      old-slot a s la n m = subst (λ (l : List ℕ). Memᴰ s l) (was a la n).1 m

      inside : (a s : ℕ) → t'.live a ≡ true → Memᴰ s (fields d' (hs a)) → Dec (a ≡ b) → s < length d'.pool.texts
      inside a s la m (yes e) = R.holds.inside s (at_b a s e m)
      inside a s la m (no n) = omega (arith, P.inside a s (was a la n).0 (old-slot a s la n m), R.grows)

      distinct : (a : ℕ) → t'.live a ≡ true → Dec (a ≡ b) → Distinct (fields d' (hs a))
      distinct a la (yes e) = subst Distinct (sym (ap (λ (c : ℕ). fields d' (hs c)) e ∙ here)) R.holds.once
      distinct a la (no n) = subst Distinct (sym (was a la n).1) (P.distinct a (was a la n).0)

      -- a slot of b and of another
      never : (c s : ℕ) → t.live c ≡ true → c ≢ b → Memᴰ s (fields d (hs c)) → Memᴰ s new → ⊥
      never c s lc n m k = go (R.origin s k)
        where
          go : Memᴰ s old ⊎ (Memᴰ s d.pool.free ⊎ (length d.pool.texts ≤ s)) → ⊥
          go (inl o) = n (P.single c b s lc (mine s o).0 m (mine s o).1)
          go (inr (inl f)) = P.free_apart c s lc m f
          go (inr (inr h)) = omega (arith, P.inside c s lc m)

      single : (a c s : ℕ) → t'.live a ≡ true → t'.live c ≡ true → Memᴰ s (fields d' (hs a)) → Memᴰ s (fields d' (hs c))
          → Dec (a ≡ b) → Dec (c ≡ b) → a ≡ c
      single a c s la lc m n (yes e) (yes f) = e ∙ sym f
      single a c s la lc m n (yes e) (no h) = absurd (never c s (was c lc h).0 h (old-slot c s lc h n) (at_b a s e m))
      single a c s la lc m n (no h) (yes f) = absurd (never a s (was a la h).0 h (old-slot a s la h m) (at_b c s f n))
      single a c s la lc m n (no h) (no k) = P.single a c s (was a la h).0 (was c lc k).0 (old-slot a s la h m) (old-slot c s lc k n)

      free_apart : (a s : ℕ) → t'.live a ≡ true → Memᴰ s (fields d' (hs a)) → Dec (a ≡ b) → Memᴰ s d'.pool.free → ⊥
      free_apart a s la m (yes e) f = R.holds.not_free s (at_b a s e m) f
      free_apart a s la m (no n) f = P.free_apart a s (was a la n).0 (old-slot a s la n m) (R.free_old s f)

      by-new : (s : ℕ) → Memᴰ s new → (a : ℕ) × (t'.live a ≡ true) × Memᴰ s (fields d' (hs a))
      by-new s m = (b, lb', subst (λ (l : List ℕ). Memᴰ s l) (sym here) m)

      by_old : (s a : ℕ) → t.live a ≡ true → Memᴰ s (fields d (hs a)) → Dec (a ≡ b) → (c : ℕ) × (t'.live c ≡ true) × Memᴰ s (fields d' (hs c))
      by_old s a la m (yes e) =
          by-new s (R.kept s (all (ap t.live (sym e) ∙ la) s (subst (λ (c : ℕ). Memᴰ s (fields d (hs c))) e m)))
      by_old s a la m (no n) =
          let l : t'.live a ≡ true = still a la in
          (a, l, subst (λ (f : List ℕ). Memᴰ s f) (sym (was a l n).1) m)

      covered : (s : ℕ) → Memᴰ s d'.pool.free ⊎ (Memᴰ s new ⊎ ((s < length d.pool.texts) × (Memᴰ s d.pool.free → ⊥)))
          → Memᴰ s d'.pool.free ⊎ ((a : ℕ) × (t'.live a ≡ true) × Memᴰ s (fields d' (hs a)))
      covered s (inl m) = inl m
      covered s (inr (inl m)) = inr (by-new s m)
      covered s (inr (inr h)) = go (P.covered s h.0)
        where
          go : Memᴰ s d.pool.free ⊎ ((a : ℕ) × (t.live a ≡ true) × Memᴰ s (fields d (hs a)))
              → Memᴰ s d'.pool.free ⊎ ((a : ℕ) × (t'.live a ≡ true) × Memᴰ s (fields d' (hs a)))
          go (inl f) = absurd (h.1 f)
          go (inr o) = inr (by_old s o.0 o.1 o.2 (ℕ_discrete o.0 b))
