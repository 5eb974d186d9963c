-- Structure rule 8 and its test say the same.
-- Assumes nothing.
use mathlib.Core.Path.{◌≡◌, refl, ap}
use mathlib.Core.Bool.{Bool, true, ◌&&◌}
use mathlib.Core.List.{List, [], ◌∷◌, Memᴰ}
use Prim.Native.Nat.{ℕ, ◌+◌, ◌<◌}
use native.Mathlib.Omega.{arith}
use native.Mathlib.Decide.{dec_lt}
use borrow.Author.Tests.{ltb-true, lt-ltb, eqb-true, eq-eqb}
use lib.Dec.{eqb, ltb}
use lib.ListN.{length, get_or}
use Rattle.words.specs.Lists.{count_of, all}
use Rattle.words.proofs.Lists.{all_below-at, at-all_below}
use Rattle.words.proofs.Tests.{and_left, and_right, and_both}
use Rattle.model.specs.Kinds.{names_of}
use Rattle.model.specs.Doc.{Doc, kind_in}
use Rattle.model.specs.Rules.{held, Texts}
use Rattle.model.specs.RulesTest.{texts_hold}
use Rattle.laws.proofs.Basics.{mem-count, count-mem}
use Rattle.laws.proofs.Counting.{all-mem, mem-all, count-absent}
use Rattle.laws.proofs.Quantifiers.{live_at, at-live}

no_bytes : (l : List ℕ) → length l ≡ 0 → l ≡ []
no_bytes [] e = refl
no_bytes (x ∷ l) e = absurd (omega arith)

module _ (d : Doc) where
  abbrev made : ℕ
  made = length d.pool.texts

  -- how often a text slot is held or free
  abbrev standing : ℕ → ℕ
  standing s = count_of (eqb s) (held d) + count_of (eqb s) d.pool.free

  abbrev empty_inside : ℕ → Bool
  empty_inside s = ltb s made && eqb (length (get_or d.pool.texts s [])) 0

  pub texts-of-test : texts_hold d ≡ true → Texts d
  unfolding texts_hold
  texts-of-test h = record {
    lengths = search (and_left, and_right);
    once = λ s b. eqb-true (standing s) 1 (all_below-at (λ s. eqb (standing s) 1) made (search (and_left, and_right)) s b);
    inside = λ s b.
        let k = count-absent s (held d) (λ m. let z = held-inside s m in omega arith) in
        let f = count-absent s d.pool.free (λ m. let z = free-inside s m in omega arith) in
        omega arith;
    emptied = λ s c.
        no_bytes (get_or d.pool.texts s [])
        (eqb-true (length (get_or d.pool.texts s [])) 0
        (and_right (ltb s made) (eqb (length (get_or d.pool.texts s [])) 0) (free-holds s (count-mem s d.pool.free c))));
    names = λ i n l m.
        ltb-true n (length d.names)
        (all-mem (λ n. ltb n (length d.names)) (names_of (kind_in d i))
        (live_at d (λ i. all (λ n. ltb n (length d.names)) (names_of (kind_in d i))) (search (and_left, and_right)) i l) n m);
  }
    where
      held-inside : (s : ℕ) → Memᴰ s (held d) → s < made
      held-inside s m = ltb-true s made (all-mem (λ s. ltb s made) (held d) (search (and_left, and_right)) s m)

      free-holds : (s : ℕ) → Memᴰ s d.pool.free → empty_inside s ≡ true
      free-holds s m = all-mem empty_inside d.pool.free (search (and_left, and_right)) s m

      free-inside : (s : ℕ) → Memᴰ s d.pool.free → s < made
      free-inside s m = ltb-true s made (and_left (ltb s made) (eqb (length (get_or d.pool.texts s [])) 0) (free-holds s m))

  pub test-of-texts : Texts d → texts_hold d ≡ true
  unfolding texts_hold
  test-of-texts R =
      rw (
        at-all_below (λ s. eqb (standing s) 1) made (λ s b. eq-eqb (standing s) 1 (R.once s b)),
        mem-all (λ s. ltb s made) (held d) (λ s m. lt-ltb s made (inside s (let c = mem-count s (held d) m in omega arith))),
        mem-all empty_inside d.pool.free free-holds,
        at-live d (λ i. all (λ n. ltb n (length d.names)) (names_of (kind_in d i)))
            (λ i l. mem-all (λ n. ltb n (length d.names)) (names_of (kind_in d i)) (λ n m. lt-ltb n (length d.names) (R.names i n l m))),
        R.lengths,
      )
    where
      -- a slot past those made stands nowhere
      inside : (s : ℕ) → 0 < standing s → s < made
      inside s c = go (dec_lt s made)
        where
          go : Dec (s < made) → s < made
          go (yes b) = b
          go (no b) = absurd (let z = R.inside s (omega arith) in omega arith)

      free-holds : (s : ℕ) → Memᴰ s d.pool.free → empty_inside s ≡ true
      free-holds s m =
          let c = mem-count s d.pool.free m in
          and_both (ltb s made) (eqb (length (get_or d.pool.texts s [])) 0)
          (lt-ltb s made (inside s (omega arith)))
          (eq-eqb (length (get_or d.pool.texts s [])) 0 (ap length (R.emptied s c)))
