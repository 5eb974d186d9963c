-- Nodes freed one after the other.
-- Assumes nothing.
use Rattle.std.specs.Prelude.{Option}
use mathlib.Core.Path.{◌≡◌, refl, sym, ap, ◌∙◌, subst}
use mathlib.Core.Bool.{false}
use mathlib.Core.List.Memᴰ
use mathlib.Core.List.{List, [], ◌∷◌, ◌++◌, append-nil, Memᴰ}
use Prim.Native.Nat.{ℕ, ◌+◌, ◌≤◌, ◌<◌}
use native.Mathlib.Omega.{arith}
use native.Mathlib.Decide.{dec_lt}
use lib.ListN.{length, get_or, set, length-append, get_or-eq_default}
use Rattle.words.specs.Lists.{joined}
use Rattle.words.proofs.Joined.{joined-append}
use Rattle.records.specs.Handles.{handle_index}
use Rattle.model.specs.Kinds.{texts_of}
use Rattle.model.specs.Doc.{Doc, change_slots, change_current, change_pool, kind_at}
use Rattle.model.specs.Edits.{up, raised_all, freed_all, free_all}
use Rattle.laws.proofs.Freeing.{length-raised_all, raised_all-fits}
use Rattle.edits.specs.Pooled.{set_pool}
use Rattle.freeing.specs.Freed.{pushed_all, free_slot, free_node, free_all_slots}
use Rattle.freeing.specs.Asked.{Releasable, NodeFreeable}
use Rattle.freeing.proofs.Pushed.{pushed_all-append, releasable-next}

raised_all-append : (a b gens : List ℕ) → raised_all gens (a ++ b) ≡ raised_all (raised_all gens a) b
raised_all-append [] b gens = refl
raised_all-append (h ∷ a) b gens = raised_all-append a b (set gens (handle_index h) (up (get_or gens (handle_index h) 1)))

freed_all-append : (a b free : List ℕ) → freed_all free (a ++ b) ≡ freed_all (freed_all free a) b
freed_all-append [] b free = refl
freed_all-append (h ∷ a) b free = freed_all-append a b (handle_index h ∷ free)

length-freed_all : (l free : List ℕ) → length (freed_all free l) ≡ length free + length l
length-freed_all [] free = omega arith
length-freed_all (h ∷ l) free = length-freed_all l (handle_index h ∷ free) ∙ omega arith

module _ (D : Doc) where
  -- the texts of these nodes
  abbrev pub texts_of_all : List ℕ → List (Option ℕ)
  texts_of_all l = joined (λ h. texts_of (kind_at D h)) l

  -- they can be freed in turn
  pub record AllFreeable (l : List ℕ) : Type 0 where
    pub made : (h : ℕ) → Memᴰ h l → handle_index h < length D.gens
    pub generations : (i : ℕ) → i < length D.gens → get_or D.gens i 0 < 4294967296
    pub room : length D.free + length l ≤ D.limits.nodes
    pub texts : Releasable D (texts_of_all l)

  -- none freed, and one more
  pub free_all-none : D.current ≡ false → D ≡ free_all_slots D []
  unfolding free_all set_pool
  free_all-none e = ap (change_current D) e

  pub free_all-next : (l : List ℕ) (h : ℕ) → free_node (free_all_slots D l) (handle_index h) ≡ free_all_slots D (l ++ (h ∷ []))
  unfolding free_all free_slot set_pool
  free_all-next l h =
      let texts : texts_of_all (l ++ (h ∷ [])) ≡ texts_of_all l ++ texts_of (kind_at D h) =
      joined-append (λ x. texts_of (kind_at D x)) l (h ∷ []) ∙ ap (λ (x : List (Option ℕ)). texts_of_all l ++ x) (append-nil (texts_of (kind_at D h))) in
      let gens = sym (raised_all-append l (h ∷ []) D.gens) in
      let free = sym (freed_all-append l (h ∷ []) D.free) in
      let pool = sym (ap (pushed_all D.pool) texts ∙ pushed_all-append (texts_of_all l) (texts_of (kind_at D h)) D.pool) in
      λ i. change_pool (change_current (change_slots D (gens i) (free i)) false) (pool i)

  -- the next of them
  module _ (l : List ℕ) (h : ℕ) (f : AllFreeable (l ++ (h ∷ []))) where
    texts-next : Releasable (set_pool D (pushed_all D.pool (texts_of_all l))) (texts_of (kind_at D h))
    texts-next =
        subst (Releasable (set_pool D (pushed_all D.pool (texts_of_all l)))) (append-nil (texts_of (kind_at D h)))
        (releasable-next D (texts_of_all l) (texts_of_all (h ∷ [])) (subst (Releasable D) (joined-append (λ x. texts_of (kind_at D x)) l (h ∷ [])) f.texts))

    generation-fits : (i : ℕ) → Dec (i < length D.gens) → get_or D.gens i 0 < 4294967296
    generation-fits i (yes b) = f.generations i b
    generation-fits i (no b) =
        let e : get_or D.gens i 0 ≡ 0 = get_or-eq_default D.gens 0 {n = i} (omega arith) in
        omega arith

    pub next-freeable : NodeFreeable (free_all_slots D l) (handle_index h)
    unfolding free_all set_pool
    next-freeable =
        let t = texts-next in
        record {
          slot = record {
            counts = t.counts;
            made = omega (arith, f.made h (Memᴰ.append_right l (Memᴰ.head refl)), length-raised_all l D.gens);
            generation = raised_all-fits l D.gens (λ i. generation-fits i (dec_lt i (length D.gens))) (handle_index h);
            room = omega (arith, f.room, length-append l (h ∷ []), length-freed_all l D.free);
          };
          texts = record { counts = t.counts; lengths = t.lengths; room = t.room };
        }
