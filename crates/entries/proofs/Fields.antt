-- What the functions that test and count the fields of the nodes cite, over plain values.
-- Assumes nothing.
use Rattle.std.specs.Prelude.{Option, None, Some}
use mathlib.Core.Path.{◌≡◌, refl, sym, ap, ◌∙◌, subst}
use mathlib.Core.Bool.{Bool, true, false, ◌&&◌, false≢true}
use mathlib.Core.List.{List, [], ◌∷◌, ◌++◌}
use Prim.Native.Nat.{ℕ, ◌≤◌, ◌<◌}
use native.Mathlib.Omega.{arith}
use lib.ListN.{length, get_or, set}
use lib.Dec.{ltb}
use borrow.Author.Tests.{lt-ltb, le-ltb}
use Rattle.words.specs.declared.TextSlot.{TextSlot}
use Rattle.words.specs.Lists.{all}
use Rattle.model.specs.Kinds.{Kind, root, element, attribute, text, comment, namespace, instruction, texts_of}
use Rattle.model.specs.Doc.{Doc, live_slot, kind_in}
use Rattle.model.specs.Rules.{held_in, slots_held}
use Rattle.memory.specs.Decode.{slot_of}
use Rattle.entries.specs.Nodes.{kind_number, name_number, first_slot, second_slot}
use Rattle.entries.specs.Marks.{raised, Pass, Adds}
use Rattle.entries.specs.Fields.{slots_inside, names_inside, fields_hold}
use Rattle.entries.proofs.Marks.{adds_none, adds_then, adds_one}

-- the marks have kept their number
pub pass-at : (n k : ℕ) (t : Bool) (l a b : List ℕ) (r : Bool) → n ≡ k → Pass n t l a b r → Pass k t l a b r
pass-at n k t l a b r e p = subst (λ (m : ℕ). Pass m t l a b r) e p

-- ---- a name number

one_name : (t : Bool) → t ≡ (t && true)
one_name true = refl
one_name false = refl

module _ (names kind : ℕ) where
  pub name-none : (k : Kind ℕ (Option ℕ)) → kind ≡ kind_number k → kind ≡ 0 → true ≡ names_inside names k
  unfolding names_inside
  name-none root e z = refl
  name-none (element n) e z = absurd (omega arith)
  name-none (attribute n v) e z = absurd (omega arith)
  name-none (text t) e z = refl
  name-none (comment t) e z = refl
  name-none (namespace p u) e z = refl
  name-none (instruction t d) e z = refl

  pub name-later : (k : Kind ℕ (Option ℕ)) → kind ≡ kind_number k → 2 < kind → true ≡ names_inside names k
  unfolding names_inside
  name-later root e z = refl
  name-later (element n) e z = absurd (omega arith)
  name-later (attribute n v) e z = absurd (omega arith)
  name-later (text t) e z = refl
  name-later (comment t) e z = refl
  name-later (namespace p u) e z = refl
  name-later (instruction t d) e z = refl

  pub name-inside : (k : Kind ℕ (Option ℕ)) → kind ≡ kind_number k → (kind ≡ 0 → ⊥) → kind ≤ 2 → (name : ℕ) → name ≡ name_number k → ltb name names ≡ names_inside names k
  unfolding names_inside
  name-inside root e z h name q = absurd (z e)
  name-inside (element n) e z h name q = ap (λ (m : ℕ). ltb m names) q ∙ one_name (ltb n names)
  name-inside (attribute n v) e z h name q = ap (λ (m : ℕ). ltb m names) q ∙ one_name (ltb n names)
  name-inside (text t) e z h name q = absurd (omega arith)
  name-inside (comment t) e z h name q = absurd (omega arith)
  name-inside (namespace p u) e z h name q = absurd (omega arith)
  name-inside (instruction t d) e z h name q = absurd (omega arith)

-- ---- a text field

module _ (c : Option TextSlot) (texts : ℕ) (marks : List ℕ) where
  pub text-none : c ≡ None → Pass (length marks) (slots_inside texts (slots_held (slot_of c ∷ []))) (slots_held (slot_of c ∷ [])) marks marks true
  unfolding slots_inside
  text-none e = rw e (record { answer = refl; counts = λ _. adds_none (length marks) marks })

  module _ (t : TextSlot) (e : c ≡ Some t) where
    pub text-outside : texts ≤ t.0 → Pass (length marks) (slots_inside texts (slots_held (slot_of c ∷ []))) (slots_held (slot_of c ∷ [])) marks marks false
    unfolding slots_inside
    text-outside h =
        rw e (record {
          answer = sym (ap (λ (b : Bool). b && true) (le-ltb t.0 texts h));
          counts = λ z. absurd (false≢true z);
        })

    pub text-counted : t.0 < texts → texts ≤ length marks → (after : List ℕ) → after ≡ set marks t.0 (raised (get_or marks t.0 0))
        → Pass (length marks) (slots_inside texts (slots_held (slot_of c ∷ []))) (slots_held (slot_of c ∷ [])) marks after true
    unfolding slots_inside
    text-counted h l after q =
        rw e (record {
          answer = sym (ap (λ (b : Bool). b && true) (lt-ltb t.0 texts h));
          counts = λ _. subst (λ (m : List ℕ). Adds (length marks) (t.0 ∷ []) marks m) (sym q) (adds_one (length marks) marks t.0 (omega arith));
        })

-- ---- two text fields

module _ (a b : Option TextSlot) (texts : ℕ) where
  two-held : slots_held (slot_of a ∷ slot_of b ∷ []) ≡ slots_held (slot_of a ∷ []) ++ slots_held (slot_of b ∷ [])
  two-held = go (slot_of a)
    where
      go : (o : Option ℕ) → slots_held (o ∷ slot_of b ∷ []) ≡ slots_held (o ∷ []) ++ slots_held (slot_of b ∷ [])
      go None = refl
      go (Some s) = refl

  two-inside : slots_inside texts (slots_held (slot_of a ∷ slot_of b ∷ [])) ≡ (slots_inside texts (slots_held (slot_of a ∷ [])) && slots_inside texts (slots_held (slot_of b ∷ [])))
  unfolding slots_inside
  two-inside = go (slot_of a)
    where
      one : (t u : Bool) → (t && u) ≡ ((t && true) && u)
      one true u = refl
      one false u = refl

      go : (o : Option ℕ) → all (λ s. ltb s texts) (slots_held (o ∷ slot_of b ∷ [])) ≡ (all (λ s. ltb s texts) (slots_held (o ∷ [])) && all (λ s. ltb s texts) (slots_held (slot_of b ∷ [])))
      go None = refl
      go (Some s) = one (ltb s texts) (all (λ s. ltb s texts) (slots_held (slot_of b ∷ [])))

  module _ (marks m : List ℕ) (r : Bool) (p : Pass (length marks) (slots_inside texts (slots_held (slot_of a ∷ []))) (slots_held (slot_of a ∷ [])) marks m r) where
    pub first-outside : r ≡ false → Pass (length marks) (slots_inside texts (slots_held (slot_of a ∷ slot_of b ∷ []))) (slots_held (slot_of a ∷ slot_of b ∷ [])) marks m false
    first-outside e = record { answer = sym (two-inside ∙ rw (← p.answer, e)); counts = λ z. absurd (false≢true z) }

    pub both-counted : r ≡ true → length m ≡ length marks → (n : List ℕ) (s : Bool)
        → Pass (length m) (slots_inside texts (slots_held (slot_of b ∷ []))) (slots_held (slot_of b ∷ [])) m n s
        → Pass (length marks) (slots_inside texts (slots_held (slot_of a ∷ slot_of b ∷ []))) (slots_held (slot_of a ∷ slot_of b ∷ [])) marks n s
    both-counted e k n s q = record {
      answer = q.answer ∙ sym (two-inside ∙ rw (← p.answer, e));
      counts = λ z.
          subst (λ (l : List ℕ). Adds (length marks) l marks n) (sym two-held)
          (adds_then (length marks) (slots_held (slot_of a ∷ [])) (slots_held (slot_of b ∷ [])) marks m n (p.counts e)
          (subst (λ (i : ℕ). Adds i (slots_held (slot_of b ∷ [])) m n) k (q.counts z)));
    }

-- ---- the fields of a node

fields-of : (k : Kind ℕ (Option ℕ)) → slots_held (texts_of k) ≡ slots_held (first_slot k ∷ second_slot k ∷ [])
fields-of k = go k
  where
    one : (o : Option ℕ) → slots_held (o ∷ []) ≡ slots_held (o ∷ None ∷ [])
    one None = refl
    one (Some s) = refl

    go : (k : Kind ℕ (Option ℕ)) → slots_held (texts_of k) ≡ slots_held (first_slot k ∷ second_slot k ∷ [])
    go root = refl
    go (element n) = refl
    go (attribute n v) = one v
    go (text t) = one t
    go (comment t) = one t
    go (namespace p u) = refl
    go (instruction t d) = refl

module _ (D : Doc) (s texts names : ℕ) (marks : List ℕ) (live : live_slot D s ≡ true) (u : Bool) (e : u ≡ names_inside names (kind_in D s)) where
  pub node-refused : u ≡ false → Pass (length marks) (fields_hold texts names D s) (held_in D s) marks marks false
  unfolding fields_hold
  node-refused q = rw live (record { answer = rw (← e, q); counts = λ z. absurd (false≢true z) })

  pub node-counted : u ≡ true → (first second : Option TextSlot) → slot_of first ≡ first_slot (kind_in D s) → slot_of second ≡ second_slot (kind_in D s) → (after : List ℕ) (r : Bool)
      → Pass (length marks) (slots_inside texts (slots_held (slot_of first ∷ slot_of second ∷ []))) (slots_held (slot_of first ∷ slot_of second ∷ [])) marks after r
      → Pass (length marks) (fields_hold texts names D s) (held_in D s) marks after r
  unfolding fields_hold
  node-counted q first second ef es after r p =
      rw (live, fields-of (kind_in D s), ← e, q, ← ef, ← es) p
