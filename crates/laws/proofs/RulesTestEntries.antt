-- Structure rules 3, 4 and 7 and their tests say the same.
-- Assumes nothing.
use Rattle.std.specs.Prelude.{Option, None, Some}
use mathlib.Core.Path.{◌≡◌, refl, sym, ap, ◌∙◌}
use mathlib.Core.Bool.{true, false≢true}
use mathlib.Core.List.{Memᴰ}
use Prim.Native.Nat.{ℕ}
use borrow.Author.Tests.{eqb-true, eq-eqb, leb-true, le-leb}
use lib.Dec.{eqb}
use Rattle.words.specs.Lists.{count_of, all}
use Rattle.words.proofs.Tests.{and_left, and_right, and_both}
use Rattle.model.specs.Kinds.{Which, children, attributes, namespaces, same_which, is_element, owns, which_of}
use Rattle.model.specs.Doc.{Doc, live_slot, handle_at, resolves, kind_in, kind_at, parent_in, parent_at, list_in, list_at, any_option}
use Rattle.model.specs.Rules.{Parents, Entries, OneRootElement}
use Rattle.model.specs.RulesTest.{all_option, all_live, parent_holds, parents_hold, entered_once, entry_holds, entries_hold, one_root_element_holds}
use Rattle.laws.proofs.Basics.{same_which-refl}
use Rattle.laws.proofs.Counting.{all-mem, mem-all}
use Rattle.laws.proofs.Quantifiers.{which-at, at-which, live_at, at-live}

same_which-true : (v w : Which) → same_which v w ≡ true → v ≡ w
same_which-true children children e = refl
same_which-true children attributes e = absurd (false≢true e)
same_which-true children namespaces e = absurd (false≢true e)
same_which-true attributes children e = absurd (false≢true e)
same_which-true attributes attributes e = refl
same_which-true attributes namespaces e = absurd (false≢true e)
same_which-true namespaces children e = absurd (false≢true e)
same_which-true namespaces attributes e = absurd (false≢true e)
same_which-true namespaces namespaces e = refl

eq-same_which : (v w : Which) → v ≡ w → same_which v w ≡ true
eq-same_which v w e = ap (same_which v) (sym e) ∙ same_which-refl v

-- ---- 3

pub parents-of-test : (d : Doc) → parents_hold d ≡ true → Parents d
unfolding parents_hold
parents-of-test d h = record { owner = owner; detached = detached }
  where
    holds : (i : ℕ) → live_slot d i ≡ true → (o : Option ℕ) → parent_in d i ≡ o → parent_holds d i o ≡ true
    holds i l o e = ap (parent_holds d i) (sym e) ∙ live_at d (λ i. parent_holds d i (parent_in d i)) h i l

    owner : (i p : ℕ) → live_slot d i ≡ true → parent_in d i ≡ Some p → (resolves d p ≡ true) × (owns (which_of (kind_in d i)) (kind_at d p) ≡ true)
    owner i p l e =
        let k = holds i l (Some p) e in
        (and_left (resolves d p) (owns (which_of (kind_in d i)) (kind_at d p)) k, and_right (resolves d p) (owns (which_of (kind_in d i)) (kind_at d p)) k)

    detached : (i : ℕ) → live_slot d i ≡ true → parent_in d i ≡ None → which_of (kind_in d i) ≡ children
    detached i l e = same_which-true (which_of (kind_in d i)) children (holds i l None e)

pub test-of-parents : (d : Doc) → Parents d → parents_hold d ≡ true
unfolding parents_hold
test-of-parents d R = at-live d (λ i. parent_holds d i (parent_in d i)) (λ i l. go i l (parent_in d i) refl)
  where
    go : (i : ℕ) → live_slot d i ≡ true → (o : Option ℕ) → parent_in d i ≡ o → parent_holds d i o ≡ true
    go i l None e = eq-same_which (which_of (kind_in d i)) children (R.detached i l e)
    go i l (Some p) e = let k = R.owner i p l e in and_both (resolves d p) (owns (which_of (kind_in d i)) (kind_at d p)) k.0 k.1

-- ---- 4

parent_is : (o : Option ℕ) (h : ℕ) → any_option (eqb h) o ≡ true → o ≡ Some h
parent_is None h e = absurd (false≢true e)
parent_is (Some p) h e = ap Some (sym (eqb-true h p e))

is-parent : (o : Option ℕ) (h : ℕ) → o ≡ Some h → any_option (eqb h) o ≡ true
is-parent o h e = ap (any_option (eqb h)) e ∙ eq-eqb h h refl

pub entries-of-test : (d : Doc) → entries_hold d ≡ true → Entries d
unfolding entries_hold
entries-of-test d h = record { one = one; no_other = no_other }
  where
    once : all_live d (λ i. all_option (entered_once d i) (parent_in d i)) ≡ true
    once = search and_left

    others : (w : Which) → all_live d (λ i. all (entry_holds d w i) (list_in d w i)) ≡ true
    others w = which-at (λ w. all_live d (λ i. all (entry_holds d w i) (list_in d w i))) (search (and_left, and_right)) w

    one : (i p : ℕ) → live_slot d i ≡ true → parent_in d i ≡ Some p → count_of (eqb (handle_at d i)) (list_at d (which_of (kind_in d i)) p) ≡ 1
    one i p l e =
        eqb-true (count_of (eqb (handle_at d i)) (list_at d (which_of (kind_in d i)) p)) 1
        (ap (all_option (entered_once d i)) (sym e) ∙ live_at d (λ i. all_option (entered_once d i) (parent_in d i)) once i l)

    no_other : (w : Which) (i h : ℕ) → live_slot d i ≡ true → Memᴰ h (list_in d w i)
        → (resolves d h ≡ true) × (parent_at d h ≡ Some (handle_at d i)) × (which_of (kind_at d h) ≡ w)
    no_other w i h l m =
        let k : entry_holds d w i h ≡ true = all-mem (entry_holds d w i) (list_in d w i) (live_at d (λ i. all (entry_holds d w i) (list_in d w i)) (others w) i l) h m in (
          search (and_left, and_right),
          parent_is (parent_at d h) (handle_at d i) (search (and_left, and_right)),
          same_which-true (which_of (kind_at d h)) w (search (and_left, and_right)),
        )

pub test-of-entries : (d : Doc) → Entries d → entries_hold d ≡ true
unfolding entries_hold
test-of-entries d R =
    rw (
      at-live d (λ i. all_option (entered_once d i) (parent_in d i)) (λ i l. once i l (parent_in d i) refl),
      at-which (λ w. all_live d (λ i. all (entry_holds d w i) (list_in d w i)))
          (λ w. at-live d (λ i. all (entry_holds d w i) (list_in d w i)) (λ i l. mem-all (entry_holds d w i) (list_in d w i) (entry w i l))),
    )
  where
    once : (i : ℕ) → live_slot d i ≡ true → (o : Option ℕ) → parent_in d i ≡ o → all_option (entered_once d i) o ≡ true
    once i l None e = refl
    once i l (Some p) e = eq-eqb (count_of (eqb (handle_at d i)) (list_at d (which_of (kind_in d i)) p)) 1 (R.one i p l e)

    entry : (w : Which) (i : ℕ) → live_slot d i ≡ true → (h : ℕ) → Memᴰ h (list_in d w i) → entry_holds d w i h ≡ true
    entry w i l h m =
        let k = R.no_other w i h l m in
        rw (k.0, is-parent (parent_at d h) (handle_at d i) k.1, eq-same_which (which_of (kind_at d h)) w k.2)

-- ---- 7

pub one-element-of-test : (d : Doc) → one_root_element_holds d ≡ true → OneRootElement d
unfolding one_root_element_holds
one-element-of-test d h = leb-true (count_of (λ c. is_element (kind_at d c)) (list_in d children 0)) 1 h

pub test-of-one-element : (d : Doc) → OneRootElement d → one_root_element_holds d ≡ true
unfolding one_root_element_holds
test-of-one-element d h = le-leb (count_of (λ c. is_element (kind_at d c)) (list_in d children 0)) 1 h
