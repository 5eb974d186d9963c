-- Rule 4 from the marks: where each entry may stand where it does, an entry of a node stands in its parent's list of its kind alone, so the
-- mark of its slot tells how often it stands there.
-- Assumes nothing.
use Rattle.std.proofs.lemmas.Option.{same_Some}
use Rattle.std.specs.Prelude.{Option, None, Some}
use mathlib.Core.Path.{◌≡◌, refl, sym, ap, ◌∙◌}
use mathlib.Core.Bool.{Bool, true, false, ◌&&◌, cond, and-false, and-true, false≢true, true≢false}
use mathlib.Core.List.{List, [], ◌++◌, Memᴰ}
use Prim.Native.Nat.{ℕ, ◌+◌, ◌≤◌, ◌<◌, min}
use native.Mathlib.Decide.{ℕ_discrete}
use native.Mathlib.Omega.{arith}
use lib.ListN.{length, get_or}
use lib.Dec.{eqb}
use borrow.Author.Tests.{eqb-true, eq-eqb, ne_eqb}
use Rattle.words.specs.Lists.{count_of, all, all_below}
use Rattle.words.proofs.Lists.{all_below-at, all_below-same}
use Rattle.words.proofs.Tests.{and_left, and_right}
use Rattle.records.specs.Handles.{handle_index, handle_generation}
use Rattle.model.specs.Kinds.{Which, children, attributes, namespaces, same_which, which_of}
use Rattle.model.specs.Doc.{Doc, generation_at, live_slot, handle_at, resolves, kind_in, kind_at, parent_in, parent_at, list_in, list_at, any_option}
use Rattle.model.specs.Rules.{Parents}
use Rattle.model.specs.RulesTest.{implies, all_option, all_which, all_live, entered_once, entry_holds, entries_hold}
use Rattle.laws.proofs.Handles.{index-handle_word, generation-handle_word, handle-same}
use Rattle.laws.proofs.Basics.{live-below}
use Rattle.laws.proofs.Counting.{all-mem}
use Rattle.laws.proofs.Quantifiers.{which-at}
use Rattle.entries.specs.Marks.{Counted, gathered}
use Rattle.entries.specs.Entering.{enters, entries_in, entries_enter, slots_entered, lists_enter, slots_named, marked_once}
use Rattle.entries.proofs.Lists.{count_of-same, count_of-none, count_of-map, gathered-joined, gathered_none, gathered-one, all_below-and}

-- ---- what an entry that may stand there tells

same-list : (v w : Which) → same_which v w ≡ true → v ≡ w
same-list children children e = refl
same-list children attributes e = absurd (false≢true e)
same-list children namespaces e = absurd (false≢true e)
same-list attributes children e = absurd (false≢true e)
same-list attributes attributes e = refl
same-list attributes namespaces e = absurd (false≢true e)
same-list namespaces children e = absurd (false≢true e)
same-list namespaces attributes e = absurd (false≢true e)
same-list namespaces namespaces e = refl

parent-told : (o : Option ℕ) (owner : ℕ) → any_option (eqb owner) o ≡ true → o ≡ Some owner
parent-told None owner e = absurd (false≢true e)
parent-told (Some p) owner e = ap Some (sym (eqb-true owner p e))

module _ (D : Doc) where
  pub record Told (w : Which) (owner h : ℕ) : Type 0 where
    pub live : live_slot D (handle_index h) ≡ true
    pub generation : generation_at D (handle_index h) ≡ handle_generation h
    pub parent : parent_at D h ≡ Some owner
    pub list : which_of (kind_at D h) ≡ w

  pub told : (w : Which) (owner h : ℕ) → enters D w owner h ≡ true → Told w owner h
  unfolding enters
  told w owner h e =
      let r : resolves D h ≡ true = search (and_left, and_right) in
      record {
        live = and_left (live_slot D (handle_index h)) (eqb (generation_at D (handle_index h)) (handle_generation h)) r;
        generation =
            eqb-true (generation_at D (handle_index h)) (handle_generation h)
            (and_right (live_slot D (handle_index h)) (eqb (generation_at D (handle_index h)) (handle_generation h)) r);
        parent = parent-told (parent_at D h) owner (search (and_left, and_right));
        list = same-list (which_of (kind_at D h)) w (search (and_left, and_right));
      }

  module _ (small : length D.gens ≤ 4294967296) where
    handle-index : (i : ℕ) → i < length D.gens → handle_index (handle_at D i) ≡ i
    handle-index i b = index-handle_word i (generation_at D i) (omega arith)

    handle-generation : (i : ℕ) → i < length D.gens → handle_generation (handle_at D i) ≡ generation_at D i
    handle-generation i b = generation-handle_word i (generation_at D i) (omega arith)

    -- an entry of slot x is the handle of x, in a list of its parent p, and of its kind
    module _ (x p : ℕ) (lx : live_slot D x ≡ true) (ep : parent_in D x ≡ Some p) where
      is-handle : (w : Which) (owner h : ℕ) → enters D w owner h ≡ true → x ≡ handle_index h → h ≡ handle_at D x
      is-handle w owner h t e =
          let b = live-below D x lx in
          handle-same h (handle_at D x) (sym e ∙ sym (handle-index x b))
          (sym (told w owner h t).generation ∙ ap (generation_at D) (sym e) ∙ sym (handle-generation x b))

      is-owner : (w : Which) (owner h : ℕ) → enters D w owner h ≡ true → x ≡ handle_index h → p ≡ owner
      is-owner w owner h t e = same_Some p owner (sym ep ∙ ap (parent_in D) e ∙ (told w owner h t).parent)

      is-list : (w : Which) (owner h : ℕ) → enters D w owner h ≡ true → x ≡ handle_index h → which_of (kind_in D x) ≡ w
      is-list w owner h t e = ap (λ (i : ℕ). which_of (kind_in D i)) e ∙ (told w owner h t).list

      -- an entry that is none of x's
      not_there : (h : ℕ) → (x ≡ handle_index h → ⊥) → eqb x (handle_index h) ≡ false
      not_there h n = ne_eqb x (handle_index h) n

      -- ---- one list

      module _ (w : Which) (i : ℕ) (t : entries_enter D w i ≡ true) where
        member : (h : ℕ) → Memᴰ h (entries_in D w i) → enters D w (handle_at D i) h ≡ true
        unfolding entries_enter
        member h m = all-mem (enters D w (handle_at D i)) (entries_in D w i) t h m

        slots-counted : count_of (eqb x) (slots_entered D w i) ≡ count_of (λ h. eqb x (handle_index h)) (entries_in D w i)
        unfolding slots_entered
        slots-counted = count_of-map (eqb x) handle_index (entries_in D w i)

        other-list : (which_of (kind_in D x) ≡ w → ⊥) → count_of (eqb x) (slots_entered D w i) ≡ 0
        other-list n =
            slots-counted
            ∙ count_of-none (λ h. eqb x (handle_index h)) (entries_in D w i) (λ h m. not_there h (λ e. n (is-list w (handle_at D i) h (member h m) e)))

        other-owner : i < length D.gens → (i ≡ handle_index p → ⊥) → count_of (eqb x) (slots_entered D w i) ≡ 0
        other-owner b n =
            slots-counted
            ∙ count_of-none (λ h. eqb x (handle_index h)) (entries_in D w i)
            (λ h m. not_there h (λ e. n (sym (handle-index i b) ∙ ap handle_index (sym (is-owner w (handle_at D i) h (member h m) e)))))

        this-entry : (h : ℕ) → enters D w (handle_at D i) h ≡ true → eqb x (handle_index h) ≡ eqb (handle_at D x) h
        this-entry h k = go (ℕ_discrete x (handle_index h))
          where
            go : Dec (x ≡ handle_index h) → eqb x (handle_index h) ≡ eqb (handle_at D x) h
            go (yes e) = eq-eqb x (handle_index h) e ∙ sym (eq-eqb (handle_at D x) h (sym (is-handle w (handle_at D i) h k e)))
            go (no n) =
                ne_eqb x (handle_index h) n
                ∙ sym (ne_eqb (handle_at D x) h (λ q. n (sym (handle-index x (live-below D x lx)) ∙ ap handle_index q)))

        this-owner : count_of (eqb x) (slots_entered D w i) ≡ count_of (eqb (handle_at D x)) (entries_in D w i)
        this-owner =
            slots-counted ∙ count_of-same (λ h. eqb x (handle_index h)) (eqb (handle_at D x)) (entries_in D w i) (λ h m. this-entry h (member h m))

      -- ---- all lists of one kind

      module _ (R : Parents D) (w : Which) (t : all_below (entries_enter D w) (length D.gens) ≡ true) where
        enter-at : (i : ℕ) → i < length D.gens → entries_enter D w i ≡ true
        enter-at i b = all_below-at (entries_enter D w) (length D.gens) t i b

        nowhere-else : (which_of (kind_in D x) ≡ w → ⊥) → count_of (eqb x) (gathered (slots_entered D w) (length D.gens)) ≡ 0
        nowhere-else n = gathered_none (eqb x) (slots_entered D w) (length D.gens) (λ i b. other-list w i (enter-at i b) n)

        owner-live : live_slot D (handle_index p) ≡ true
        owner-live = and_left (live_slot D (handle_index p)) (eqb (generation_at D (handle_index p)) (handle_generation p)) (R.owner x p lx ep).0

        at-owner : entries_in D w (handle_index p) ≡ list_at D w p
        unfolding entries_in
        at-owner = rw owner-live

        in-parent : count_of (eqb x) (gathered (slots_entered D w) (length D.gens)) ≡ count_of (eqb (handle_at D x)) (list_at D w p)
        in-parent =
            let b = live-below D (handle_index p) owner-live in
            gathered-one (eqb x) (slots_entered D w) (length D.gens) (handle_index p) b (λ i c n. other-owner w i (enter-at i c) c n)
            ∙ this-owner w (handle_index p) (enter-at (handle_index p) b)
            ∙ ap (count_of (eqb (handle_at D x))) at-owner

    -- ---- the three kinds together

    module _ (R : Parents D) (t : (w : Which) → all_below (entries_enter D w) (length D.gens) ≡ true) where
      total : (x : ℕ) → count_of (eqb x) (gathered (slots_named D) (length D.gens))
          ≡ count_of (eqb x) (gathered (slots_entered D children) (length D.gens))
          + (count_of (eqb x) (gathered (slots_entered D attributes) (length D.gens)) + count_of (eqb x) (gathered (slots_entered D namespaces) (length D.gens)))
      unfolding slots_named
      total x =
          gathered-joined (eqb x) (slots_entered D children) (λ i. slots_entered D attributes i ++ slots_entered D namespaces i) (length D.gens)
          ∙ ap (λ (k : ℕ). count_of (eqb x) (gathered (slots_entered D children) (length D.gens)) + k)
          (gathered-joined (eqb x) (slots_entered D attributes) (slots_entered D namespaces) (length D.gens))

      pub entered-count : (x p : ℕ) → live_slot D x ≡ true → parent_in D x ≡ Some p
          → count_of (eqb x) (gathered (slots_named D) (length D.gens)) ≡ count_of (eqb (handle_at D x)) (list_at D (which_of (kind_in D x)) p)
      entered-count x p lx ep = total x ∙ go (which_of (kind_in D x)) refl
        where
          absent : (v w : Which) → which_of (kind_in D x) ≡ v → same_which v w ≡ false → count_of (eqb x) (gathered (slots_entered D w) (length D.gens)) ≡ 0
          absent v w e n =
              nowhere-else x p lx ep R w (t w) (λ q. true≢false (sym (refl-list w) ∙ ap (λ (u : Which). same_which u w) (sym q ∙ e) ∙ n))
            where
              refl-list : (u : Which) → same_which u u ≡ true
              refl-list children = refl
              refl-list attributes = refl
              refl-list namespaces = refl

          go : (v : Which) → which_of (kind_in D x) ≡ v
              → count_of (eqb x) (gathered (slots_entered D children) (length D.gens))
              + (count_of (eqb x) (gathered (slots_entered D attributes) (length D.gens)) + count_of (eqb x) (gathered (slots_entered D namespaces) (length D.gens)))
              ≡ count_of (eqb (handle_at D x)) (list_at D v p)
          go children e =
              omega (arith, in-parent x p lx ep R children (t children), absent children attributes e refl, absent children namespaces e refl)
          go attributes e =
              omega (arith, in-parent x p lx ep R attributes (t attributes), absent attributes children e refl, absent attributes namespaces e refl)
          go namespaces e =
              omega (arith, in-parent x p lx ep R namespaces (t namespaces), absent namespaces children e refl, absent namespaces attributes e refl)

      -- ---- the marks tell whether each stands once

      once-told : (c : ℕ) → eqb (min 2 c) 1 ≡ eqb c 1
      once-told c = go (ℕ_discrete c 1)
        where
          go : Dec (c ≡ 1) → eqb (min 2 c) 1 ≡ eqb c 1
          go (yes e) = eq-eqb (min 2 c) 1 (omega arith) ∙ sym (eq-eqb c 1 e)
          go (no n) = ne_eqb (min 2 c) 1 (λ q. n (omega arith)) ∙ sym (ne_eqb c 1 n)

      marked : (marks : List ℕ) → Counted (length D.gens) (gathered (slots_named D) (length D.gens)) marks → (x : ℕ) → x < length D.gens
          → marked_once D marks x ≡ implies (live_slot D x) (all_option (entered_once D x) (parent_in D x))
      unfolding marked_once
      marked marks c x b = go (live_slot D x) refl (parent_in D x) refl
        where
          go : (l : Bool) → live_slot D x ≡ l → (o : Option ℕ) → parent_in D x ≡ o
              → implies l (all_option (λ _. eqb (get_or marks x 0) 1) o) ≡ implies l (all_option (entered_once D x) o)
          go false el o eo = refl
          go true el None eo = refl
          go true el (Some p) eo =
              ap (λ (k : ℕ). eqb k 1) (c.mark x b) ∙ once-told (count_of (eqb x) (gathered (slots_named D) (length D.gens))) ∙ ap (λ (k : ℕ). eqb k 1) (entered-count x p el eo)

-- ---- the test of rule 4

module _ (D : Doc) where
  list-tests : (w : Which) → all_live D (λ i. all (entry_holds D w i) (list_in D w i)) ≡ all_below (entries_enter D w) (length D.gens)
  unfolding all_live enters entries_in entries_enter
  list-tests w =
      all_below-same (λ i. implies (live_slot D i) (all (entry_holds D w i) (list_in D w i))) (entries_enter D w) (length D.gens) (λ i b. go i (live_slot D i))
    where
      go : (i : ℕ) (l : Bool) → implies l (all (entry_holds D w i) (list_in D w i)) ≡ all (enters D w (handle_at D i)) (cond l (list_in D w i) [])
      go i true = refl
      go i false = refl

  -- list by list, or slot by slot
  slot-tests : all_below (lists_enter D) (length D.gens) ≡ all_which (λ w. all_below (entries_enter D w) (length D.gens))
  unfolding lists_enter all_which
  slot-tests =
      all_below-and (λ i. entries_enter D children i && entries_enter D attributes i) (entries_enter D namespaces) (length D.gens)
      ∙ ap (λ (t : Bool). t && all_below (entries_enter D namespaces) (length D.gens)) (all_below-and (entries_enter D children) (entries_enter D attributes) (length D.gens))

  others : all_which (λ w. all_live D (λ i. all (entry_holds D w i) (list_in D w i))) ≡ all_below (lists_enter D) (length D.gens)
  unfolding all_which
  others = rw (list-tests children, list-tests attributes, list-tests namespaces) (sym slot-tests)

  pub entries-no : (t : Bool) → t ≡ all_below (lists_enter D) (length D.gens) → t ≡ false → false ≡ entries_hold D
  unfolding entries_hold
  entries-no t e f = sym (rw (others, ← e, f) (and-false (all_live D (λ i. all_option (entered_once D i) (parent_in D i)))))

  pub entries-yes : (small : length D.gens ≤ 4294967296) → Parents D → (marks : List ℕ) (t r : Bool)
      → t ≡ all_below (lists_enter D) (length D.gens) → t ≡ true → Counted (length D.gens) (gathered (slots_named D) (length D.gens)) marks
      → r ≡ all_below (marked_once D marks) (length D.gens) → r ≡ entries_hold D
  unfolding entries_hold all_live
  entries-yes small R marks t r e h c q =
      let k = which-at (λ w. all_below (entries_enter D w) (length D.gens)) (sym slot-tests ∙ sym e ∙ h) in
      let s : all_below (marked_once D marks) (length D.gens) ≡ all_live D (λ i. all_option (entered_once D i) (parent_in D i)) =
      all_below-same (marked_once D marks) (λ i. implies (live_slot D i) (all_option (entered_once D i) (parent_in D i))) (length D.gens) (marked D small R k marks c) in
      q ∙ s ∙ sym (rw (others, ← e, h) (and-true (all_live D (λ i. all_option (entered_once D i) (parent_in D i)))))
