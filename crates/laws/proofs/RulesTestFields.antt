-- Structure rules 1 and 2 and their tests say the same.
-- Assumes nothing.
use Rattle.std.specs.Prelude.{Option, None, Some}
use mathlib.Core.Path.{◌≡◌, refl, ap, subst}
use mathlib.Core.Bool.{Bool, true, false≢true}
use mathlib.Core.List.{Memᴰ}
use Prim.Native.Nat.{ℕ, ◌%◌, ◌<◌}
use borrow.Author.Tests.{ltb-true, leb-true, eqb-true, lt-ltb, le-leb, eq-eqb}
use lib.ListN.{length, get_or}
use lib.Dec.{eqb, ltb}
use Rattle.words.specs.Lists.{count_of, all_below, joined}
use Rattle.words.proofs.Lists.{all_below-at, at-all_below}
use Rattle.words.proofs.Tests.{and_left, and_right}
use Rattle.texts.specs.Pool.{bytes_of}
use Rattle.names.specs.Table.{entry_bytes}
use Rattle.model.specs.Kinds.{Kind, root, Which, is_root}
use Rattle.model.specs.Doc.{Doc, generation_at, kind_in, parent_in, even, is_some, is_none, any_option}
use Rattle.model.specs.Rules.{CountsAndFields, FreeList}
use Rattle.model.specs.RulesTest.{implies, fits_field, counts_within, words_within, one_root, counts_and_fields_hold, free_list_holds}
use Rattle.laws.proofs.Basics.{even-below}
use Rattle.laws.proofs.RulesOfSim.{is_root-root}
use Rattle.laws.proofs.Counting.{mem-get_or, mem_index, all-mem, mem-all}
use Rattle.laws.proofs.Quantifiers.{implies_true, true_implies, which-at, at-which, slots-at, at_slots, live_at, at-live}

-- ---- 1

none-there : {A : Type 0} (o : Option A) → is_none o ≡ true → o ≡ None
none-there None e = refl
none-there (Some a) e = absurd (false≢true e)

root-there : (o : Option (Kind ℕ (Option ℕ))) → any_option is_root o ≡ true → o ≡ Some root
root-there None e = absurd (false≢true e)
root-there (Some k) e = ap Some (is_root-root k e)

abbrev capacity_fits : Doc → Which → ℕ → Bool
capacity_fits d w i = fits_field (get_or (d.arenas w).caps i 0)

pub fields-of-test : (d : Doc) → counts_and_fields_hold d ≡ true → CountsAndFields d
unfolding counts_and_fields_hold counts_within words_within one_root
fields-of-test d h = record {
  counts = search (and_left, and_right) depth 8;
  slots = leb-true (length d.gens) d.limits.nodes (search (and_left, and_right) depth 8);
  texts = leb-true (length d.pool.texts) d.limits.texts (search (and_left, and_right) depth 8);
  text_bytes = leb-true (length (bytes_of d.pool.texts)) d.limits.text_bytes (search (and_left, and_right) depth 8);
  names = leb-true (length d.names) d.limits.names (search (and_left, and_right) depth 8);
  name_bytes = leb-true (length (joined entry_bytes d.names)) d.limits.name_bytes (search (and_left, and_right) depth 8);
  generations = λ i b. ltb-true (get_or d.gens i 0) 4294967296 (slots-at d (λ i. fits_field (get_or d.gens i 0)) (search (and_left, and_right) depth 8) i b);
  nodes = λ i e.
      implies_true (even (generation_at d i)) (is_some (get_or d.kinds i None))
      (slots-at d (λ i. implies (even (generation_at d i)) (is_some (get_or d.kinds i None))) (search (and_left, and_right) depth 8) i (even-below d i e)) e;
  order_words = λ i b. ltb-true (get_or d.order i 0) 4294967296 (slots-at d (λ i. fits_field (get_or d.order i 0)) (search (and_left, and_right) depth 8) i b);
  capacities = λ w i b.
      ltb-true (get_or (d.arenas w).caps i 0) 4294967296
      (all_below-at (capacity_fits d w) (d.arenas w).used
      (which-at (λ w. all_below (capacity_fits d w) (d.arenas w).used) (search (and_left, and_right) depth 8) w) i b);
  root_generation = eqb-true (generation_at d 0) 0 (search (and_left, and_right) depth 8);
  root_kind = root-there (get_or d.kinds 0 None) (search (and_left, and_right) depth 8);
  root_parent = none-there (parent_in d 0) (search (and_left, and_right) depth 8);
  root_only = λ i l r.
      eqb-true i 0
      (implies_true (is_root (kind_in d i)) (eqb i 0)
      (live_at d (λ i. implies (is_root (kind_in d i)) (eqb i 0)) (search (and_left, and_right) depth 8) i l) r);
}

test-of-counts : (d : Doc) → CountsAndFields d → counts_within d ≡ true
unfolding counts_within
test-of-counts d R =
    rw (
      R.counts,
      le-leb (length d.gens) d.limits.nodes R.slots,
      le-leb (length d.pool.texts) d.limits.texts R.texts,
      le-leb (length (bytes_of d.pool.texts)) d.limits.text_bytes R.text_bytes,
      le-leb (length d.names) d.limits.names R.names,
      le-leb (length (joined entry_bytes d.names)) d.limits.name_bytes R.name_bytes,
    )

test-of-words : (d : Doc) → CountsAndFields d → words_within d ≡ true
unfolding words_within
test-of-words d R =
    rw (
      at_slots d (λ i. fits_field (get_or d.gens i 0)) (λ i b. lt-ltb (get_or d.gens i 0) 4294967296 (R.generations i b)),
      at_slots d (λ i. implies (even (generation_at d i)) (is_some (get_or d.kinds i None)))
          (λ i b. true_implies (even (generation_at d i)) (is_some (get_or d.kinds i None)) (R.nodes i)),
      at_slots d (λ i. fits_field (get_or d.order i 0)) (λ i b. lt-ltb (get_or d.order i 0) 4294967296 (R.order_words i b)),
      at-which (λ w. all_below (capacity_fits d w) (d.arenas w).used)
          (λ w. at-all_below (capacity_fits d w) (d.arenas w).used (λ i b. lt-ltb (get_or (d.arenas w).caps i 0) 4294967296 (R.capacities w i b))),
    )

test-of-root : (d : Doc) → CountsAndFields d → one_root d ≡ true
unfolding one_root
test-of-root d R =
    rw (
      R.root_generation,
      R.root_kind,
      R.root_parent,
      at-live d (λ i. implies (is_root (kind_in d i)) (eqb i 0))
          (λ i l. true_implies (is_root (kind_in d i)) (eqb i 0) (λ r. eq-eqb i 0 (R.root_only i l r))),
    )

pub test-of-fields : (d : Doc) → CountsAndFields d → counts_and_fields_hold d ≡ true
unfolding counts_and_fields_hold
test-of-fields d R = rw (test-of-counts d R, test-of-words d R, test-of-root d R)

-- ---- 2

pub free-list-of-test : (d : Doc) → free_list_holds d ≡ true → FreeList d
unfolding free_list_holds
free-list-of-test d h = record {
  inside = λ i b.
      ltb-true (get_or d.free i 0) (length d.gens)
      (all-mem (λ s. ltb s (length d.gens)) d.free (search and_left) (get_or d.free i 0) (mem-get_or d.free i 0 b));
  once = λ s b.
      eqb-true (count_of (eqb s) d.free) (get_or d.gens s 0 % 2)
      (slots-at d (λ s. eqb (count_of (eqb s) d.free) (get_or d.gens s 0 % 2)) (search (and_left, and_right)) s b);
}

pub test-of-free-list : (d : Doc) → FreeList d → free_list_holds d ≡ true
unfolding free_list_holds
test-of-free-list d R =
    rw (
      mem-all (λ s. ltb s (length d.gens)) d.free inside,
      at_slots d (λ s. eqb (count_of (eqb s) d.free) (get_or d.gens s 0 % 2)) (λ s b. eq-eqb (count_of (eqb s) d.free) (get_or d.gens s 0 % 2) (R.once s b)),
    )
  where
    inside : (s : ℕ) → Memᴰ s d.free → ltb s (length d.gens) ≡ true
    inside s m = let o = mem_index d.free s 0 m in lt-ltb s (length d.gens) (subst (λ (x : ℕ). x < length d.gens) o.2 (R.inside o.0 o.1))
