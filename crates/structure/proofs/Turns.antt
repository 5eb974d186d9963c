-- The pass over the slots: the turn of one, and what the turns so far have found.
-- Assumes nothing.
use mathlib.Core.Path.{◌≡◌, refl, sym, ap, ap₂, ◌∙◌, subst}
use mathlib.Core.Bool.{Bool, true, false, ◌&&◌, false≢true}
use mathlib.Core.List.{List, [], ◌++◌}
use Prim.Native.Nat.{ℕ, ◌+◌, ◌-◌, ◌≤◌, ◌<◌}
use native.Mathlib.Numerals.{add-one}
use native.Mathlib.Omega.{arith}
use lib.ListN.{length, get_or, take, drop, replicate, length-replicate, get_or-replicate}
use borrow.Author.Tests.{le-leb}
use Rattle.words.specs.Parts.{part, put}
use Rattle.words.specs.Lists.{all_below}
use Rattle.words.proofs.Parts.{lent, returned, length_part, length-put, part-put-same, part-put-before, part-put-after}
use Rattle.words.proofs.Lists.{all_below-at, all_below-next}
use Rattle.words.proofs.Tests.{and_left, and_right}
use Rattle.blocks.specs.Arena.{block, cap_of}
use Rattle.blocks.specs.Claims.{claimable, claimed, block_claimable, block_claimed, marks_after, all_claimable}
use Rattle.blocks.proofs.Claimable.{claimable-fits, claimed-met, claimed-refused}
use Rattle.model.specs.Kinds.{Which, children, attributes, namespaces}
use Rattle.model.specs.Doc.{Doc, live_slot}
use Rattle.model.specs.Rules.{block_in, held_in}
use Rattle.model.specs.RulesTest.{all_which, parents_hold, blocks_hold}
use Rattle.laws.proofs.Quantifiers.{which-at, at-which}
use Rattle.layout.specs.declared.Document.{Document}
use Rattle.layout.specs.Layout.{limits_of, scratch_words, memory_ok}
use Rattle.memory.specs.Decode.{counts_within, slots_made, arena_used, arena_in}
use Rattle.memory.proofs.Columns.{length-gens}
use Rattle.entries.specs.Nodes.{no_texts, decode_nodes}
use Rattle.entries.specs.Marks.{Counted, Adds, Pass, gathered}
use Rattle.entries.specs.Fields.{fields_hold, pool_holds}
use Rattle.entries.proofs.Lists.{all_below-and, gathered_next}
use Rattle.entries.proofs.Marks.{adds_none}
use Rattle.entries.proofs.Fields.{pass-at}
use Rattle.entries.proofs.Texts.{texts-are}
use Rattle.structure.specs.Scratch.{marks_at, text_marks_at}
use Rattle.structure.specs.Tests.{root_test, parent_test, only_root, claims_met, each_holds}
use Rattle.structure.specs.Turns.{Claim, owner_holds, arena_marks, text_marks, Cleared, slot_holds, claim_met, Claims, Fields, Turn, slots_hold, Each}
use Rattle.structure.proofs.Lists.{ended, ended-first, ended-second, decided, decided-third}
use Rattle.structure.proofs.Owners.{all-parents}
use Rattle.structure.proofs.CountsAndFields.{all-roots}
use Rattle.structure.proofs.Claimed.{empty-claimable, empty-claimed, marks_inside, marks-before-texts, text-marks-inside, blocks-decided}

-- ---- a write to the marks of one arena leaves those of the others

module _ (d : Document) (w : Which) (before ys : List ℕ) (size : length ys ≡ arena_used d w) (inside : scratch_words (limits_of d.limits) ≤ length before) where
  here : arena_marks d (put (marks_at (limits_of d.limits) w) ys before) w ≡ ys
  unfolding arena_marks
  here =
      ap (λ (n : ℕ). part (marks_at (limits_of d.limits) w) n (put (marks_at (limits_of d.limits) w) ys before)) (sym size)
      ∙ part-put-same before (marks_at (limits_of d.limits) w) ys (omega (arith, marks_inside d w))

  behind : (v : Which) → marks_at (limits_of d.limits) w + arena_used d w ≤ marks_at (limits_of d.limits) v → arena_marks d (put (marks_at (limits_of d.limits) w) ys before) v ≡ arena_marks d before v
  unfolding arena_marks
  behind v h = part-put-after before (marks_at (limits_of d.limits) w) ys (marks_at (limits_of d.limits) v) (arena_used d v) (omega arith) (omega (arith, marks_inside d w))

  ahead : (v : Which) → marks_at (limits_of d.limits) v + arena_used d v ≤ marks_at (limits_of d.limits) w → arena_marks d (put (marks_at (limits_of d.limits) w) ys before) v ≡ arena_marks d before v
  unfolding arena_marks
  ahead v h = part-put-before before (marks_at (limits_of d.limits) w) ys (marks_at (limits_of d.limits) v) (arena_used d v) h (omega (arith, marks_inside d w))

  texts-behind : text_marks d (put (marks_at (limits_of d.limits) w) ys before) ≡ text_marks d before
  unfolding text_marks
  texts-behind =
      part-put-after before (marks_at (limits_of d.limits) w) ys (text_marks_at (limits_of d.limits)) d.counts.texts (omega (arith, marks-before-texts d w)) (omega (arith, marks_inside d w))

-- and a write to the marks of the texts those of all arenas
module _ (d : Document) (before ys : List ℕ) (size : length ys ≡ d.counts.texts) (fits : d.counts.texts ≤ d.limits.texts) (inside : scratch_words (limits_of d.limits) ≤ length before) where
  texts-here : text_marks d (put (text_marks_at (limits_of d.limits)) ys before) ≡ ys
  unfolding text_marks
  texts-here =
      ap (λ (n : ℕ). part (text_marks_at (limits_of d.limits)) n (put (text_marks_at (limits_of d.limits)) ys before)) (sym size)
      ∙ part-put-same before (text_marks_at (limits_of d.limits)) ys (omega (arith, text-marks-inside d fits))

  arenas-ahead : (w : Which) → arena_marks d (put (text_marks_at (limits_of d.limits)) ys before) w ≡ arena_marks d before w
  unfolding arena_marks
  arenas-ahead w =
      part-put-before before (text_marks_at (limits_of d.limits)) ys (marks_at (limits_of d.limits) w) (arena_used d w) (marks-before-texts d w) (omega (arith, text-marks-inside d fits))

module _ (d : Document) where
  record Ordered : Type 0 where
    pub first : marks_at (limits_of d.limits) children + arena_used d children ≤ marks_at (limits_of d.limits) attributes
    pub second : marks_at (limits_of d.limits) attributes + arena_used d attributes ≤ marks_at (limits_of d.limits) namespaces
    pub across : marks_at (limits_of d.limits) children + arena_used d children ≤ marks_at (limits_of d.limits) namespaces

  ordered : Ordered
  unfolding marks_at
  ordered = record { first = omega arith; second = omega arith; across = omega arith }

-- three writes, one arena after another
module _ (d : Document) (before : List ℕ) (ys : Which → List ℕ) (size : (w : Which) → length (ys w) ≡ arena_used d w) (long : scratch_words (limits_of d.limits) ≤ length before)
    (one : List ℕ) (e₁ : one ≡ put (marks_at (limits_of d.limits) children) (ys children) before) (l₁ : length one ≡ length before) where
  attributes-same : arena_marks d one attributes ≡ arena_marks d before attributes
  attributes-same = ap (λ (m : List ℕ). arena_marks d m attributes) e₁ ∙ behind d children before (ys children) (size children) long attributes (ordered d).first

  module _ (two : List ℕ) (e₂ : two ≡ put (marks_at (limits_of d.limits) attributes) (ys attributes) one) where
    namespaces-same : arena_marks d two namespaces ≡ arena_marks d before namespaces
    namespaces-same =
        ap (λ (m : List ℕ). arena_marks d m namespaces) e₂
        ∙ behind d attributes one (ys attributes) (size attributes) (omega arith) namespaces (ordered d).second
        ∙ ap (λ (m : List ℕ). arena_marks d m namespaces) e₁
        ∙ behind d children before (ys children) (size children) long namespaces (ordered d).across

    all-written : length two ≡ length one → (after : List ℕ) → after ≡ put (marks_at (limits_of d.limits) namespaces) (ys namespaces) two → (w : Which) → arena_marks d after w ≡ ys w
    all-written l₂ after e₃ children =
        ap (λ (m : List ℕ). arena_marks d m children) e₃
        ∙ ahead d namespaces two (ys namespaces) (size namespaces) (omega arith) children (ordered d).across
        ∙ ap (λ (m : List ℕ). arena_marks d m children) e₂
        ∙ ahead d attributes one (ys attributes) (size attributes) (omega arith) children (ordered d).first
        ∙ ap (λ (m : List ℕ). arena_marks d m children) e₁
        ∙ here d children before (ys children) (size children) long
    all-written l₂ after e₃ attributes =
        ap (λ (m : List ℕ). arena_marks d m attributes) e₃
        ∙ ahead d namespaces two (ys namespaces) (size namespaces) (omega arith) attributes (ordered d).second
        ∙ ap (λ (m : List ℕ). arena_marks d m attributes) e₂
        ∙ here d attributes one (ys attributes) (size attributes) (omega arith)
    all-written l₂ after e₃ namespaces =
        ap (λ (m : List ℕ). arena_marks d m namespaces) e₃
        ∙ here d namespaces two (ys namespaces) (size namespaces) (omega arith)

    texts-left : length two ≡ length one → (after : List ℕ) → after ≡ put (marks_at (limits_of d.limits) namespaces) (ys namespaces) two → text_marks d after ≡ text_marks d before
    texts-left l₂ after e₃ =
        ap (text_marks d) e₃
        ∙ texts-behind d namespaces two (ys namespaces) (size namespaces) (omega arith)
        ∙ ap (text_marks d) e₂
        ∙ texts-behind d attributes one (ys attributes) (size attributes) (omega arith)
        ∙ ap (text_marks d) e₁
        ∙ texts-behind d children before (ys children) (size children) long

pub marks-cleared : (d : Document) (before first one two after : List ℕ) → d.counts.texts ≤ d.limits.texts → scratch_words (limits_of d.limits) ≤ length before
    → first ≡ put (text_marks_at (limits_of d.limits)) (replicate d.counts.texts 0) before → length first ≡ length before
    → one ≡ put (marks_at (limits_of d.limits) children) (replicate (arena_used d children) 0) first → length one ≡ length first
    → two ≡ put (marks_at (limits_of d.limits) attributes) (replicate (arena_used d attributes) 0) one → length two ≡ length one
    → after ≡ put (marks_at (limits_of d.limits) namespaces) (replicate (arena_used d namespaces) 0) two → Cleared d after
marks-cleared d before first one two after fits long e₀ l₀ e₁ l₁ e₂ l₂ e₃ =
    let ys : Which → List ℕ = λ w. replicate (arena_used d w) 0 in
    let size : (w : Which) → length (ys w) ≡ arena_used d w = λ w. length-replicate {A = ℕ} (arena_used d w) 0 in
    record {
      arenas = all-written d first ys size (omega arith) one e₁ l₁ two e₂ l₂ after e₃;
      texts =
          texts-left d first ys size (omega arith) one e₁ l₁ two e₂ l₂ after e₃
          ∙ ap (text_marks d) e₀
          ∙ texts-here d before (replicate d.counts.texts 0) (length-replicate {A = ℕ} d.counts.texts 0) fits long;
    }

-- ---- the claims of a slot

length-claimed : (m : List ℕ) (s n : ℕ) → length (claimed m s n) ≡ length m
length-claimed m s n = go (claimable m s n) refl
  where
    go : (t : Bool) → claimable m s n ≡ t → length (claimed m s n) ≡ length m
    go true e =
        ap length (claimed-met m s n e)
        ∙ length-put m s (replicate n 1) (omega (arith, length-replicate {A = ℕ} n 1, claimable-fits m s n e))
    go false e = ap length (claimed-refused m s n e)

module _ (d : Document) (mem : List ℕ) (s : ℕ) where
  abbrev D : Doc
  D = decode_nodes d mem

  abbrev claimed_marks : List ℕ → Which → List ℕ
  claimed_marks scratch w = block_claimed (arena_in d w mem) (arena_marks d scratch w) (block_in (decode_nodes d mem) w s)

  claimed-size : (scratch : List ℕ) → scratch_words (limits_of d.limits) ≤ length scratch → (w : Which) → length (claimed_marks scratch w) ≡ arena_used d w
  unfolding arena_marks
  claimed-size scratch long w =
      length-claimed (part (marks_at (limits_of d.limits) w) (arena_used d w) scratch) (block_in D w s).start (cap_of (arena_in d w mem) (block_in D w s))
      ∙ length_part scratch (marks_at (limits_of d.limits) w) (arena_used d w) (omega (arith, marks_inside d w))

  claim-met : (w : Which) (before after : List ℕ) (r : Bool) → Claim (arena_in d w mem) (block_in (decode_nodes d mem) w s) (marks_at (limits_of d.limits) w) before after r → r ≡ claim_met d mem s before w
  unfolding claim_met arena_marks
  claim-met w before after r c = c.answer

  claim-put : (w : Which) (before after : List ℕ) (r : Bool) → Claim (arena_in d w mem) (block_in (decode_nodes d mem) w s) (marks_at (limits_of d.limits) w) before after r
      → after ≡ put (marks_at (limits_of d.limits) w) (claimed_marks before w) before
  unfolding arena_marks
  claim-put w before after r c = c.marks

  met-same : (w : Which) (one before : List ℕ) → arena_marks d one w ≡ arena_marks d before w → claim_met d mem s one w ≡ claim_met d mem s before w
  unfolding claim_met
  met-same w one before e = ap (λ (m : List ℕ). block_claimable (arena_in d w mem) m (block_in D w s)) e

  put-same-marks : (w : Which) (one before after : List ℕ) → arena_marks d one w ≡ arena_marks d before w → after ≡ put (marks_at (limits_of d.limits) w) (claimed_marks one w) one
      → after ≡ put (marks_at (limits_of d.limits) w) (claimed_marks before w) one
  put-same-marks w one before after e q =
      q ∙ ap (λ (m : List ℕ). put (marks_at (limits_of d.limits) w) (block_claimed (arena_in d w mem) m (block_in D w s)) one) e

  all-which : (p : Which → Bool) → (p children && p attributes && p namespaces) ≡ all_which p
  unfolding all_which
  all-which p = refl

  module _ (before one : List ℕ) (r₁ : Bool) (c₁ : Claim (arena_in d children mem) (block_in (decode_nodes d mem) children s) (marks_at (limits_of d.limits) children) before one r₁) where
    pub children-refused : r₁ ≡ false → Claims d mem s before one false
    children-refused q = record {
      answer = ended-first _ _ _ r₁ (claim-met children before one r₁ c₁) q ∙ all-which (claim_met d mem s before);
      arenas = λ z. absurd (false≢true z);
      texts = λ z. absurd (false≢true z);
    }

    module _ (q₁ : r₁ ≡ true) (long : scratch_words (limits_of d.limits) ≤ length before) (l₁ : length one ≡ length before) (two : List ℕ) (r₂ : Bool)
        (c₂ : Claim (arena_in d attributes mem) (block_in (decode_nodes d mem) attributes s) (marks_at (limits_of d.limits) attributes) one two r₂) where
      one-put : one ≡ put (marks_at (limits_of d.limits) children) (claimed_marks before children) before
      one-put = claim-put children before one r₁ c₁

      attributes-kept : arena_marks d one attributes ≡ arena_marks d before attributes
      attributes-kept = attributes-same d before (claimed_marks before) (claimed-size before long) long one one-put l₁

      attributes-met : r₂ ≡ claim_met d mem s before attributes
      attributes-met = claim-met attributes one two r₂ c₂ ∙ met-same attributes one before attributes-kept

      pub attributes-refused : r₂ ≡ false → Claims d mem s before two false
      attributes-refused q = record {
        answer = ended-second _ _ _ r₁ r₂ true (claim-met children before one r₁ c₁) q₁ attributes-met q ∙ all-which (claim_met d mem s before);
        arenas = λ z. absurd (false≢true z);
        texts = λ z. absurd (false≢true z);
      }

      module _ (q₂ : r₂ ≡ true) (l₂ : length two ≡ length one) (after : List ℕ) (r₃ : Bool)
          (c₃ : Claim (arena_in d namespaces mem) (block_in (decode_nodes d mem) namespaces s) (marks_at (limits_of d.limits) namespaces) two after r₃) where
        two-put : two ≡ put (marks_at (limits_of d.limits) attributes) (claimed_marks before attributes) one
        two-put = put-same-marks attributes one before two attributes-kept (claim-put attributes one two r₂ c₂)

        namespaces-kept : arena_marks d two namespaces ≡ arena_marks d before namespaces
        namespaces-kept = namespaces-same d before (claimed_marks before) (claimed-size before long) long one one-put l₁ two two-put

        after-put : after ≡ put (marks_at (limits_of d.limits) namespaces) (claimed_marks before namespaces) two
        after-put = put-same-marks namespaces two before after namespaces-kept (claim-put namespaces two after r₃ c₃)

        pub all-claimed : Claims d mem s before after r₃
        all-claimed = record {
          answer =
              decided-third _ _ _ r₁ r₂ r₃ (claim-met children before one r₁ c₁) q₁ attributes-met q₂
              (claim-met namespaces two after r₃ c₃ ∙ met-same namespaces two before namespaces-kept)
              ∙ all-which (claim_met d mem s before);
          arenas = λ _. all-written d before (claimed_marks before) (claimed-size before long) long one one-put l₁ two two-put l₂ after after-put;
          texts = λ _. texts-left d before (claimed_marks before) (claimed-size before long) long one one-put l₁ two two-put l₂ after after-put;
        }

  -- ---- the turn of a slot

  abbrev fields : Bool
  fields = fields_hold d.counts.texts d.counts.names (decode_nodes d mem) s

  all-tests : (claims : Bool) → (owner_holds (decode_nodes d mem) s && fields && claims) ≡ (slot_holds d mem s && claims)
  unfolding slot_holds
  all-tests claims = refl

  module _ (before : List ℕ) (t : Bool) (e : t ≡ owner_holds (decode_nodes d mem) s) where
    pub owner-refused : t ≡ false → Turn d mem s before before false
    owner-refused q = record {
      answer = ended-first _ fields _ t e q ∙ all-tests (all_which (claim_met d mem s before));
      arenas = λ z. absurd (false≢true z);
      texts = λ z. absurd (false≢true z);
    }

    module _ (q : t ≡ true) (one : List ℕ) (u : Bool) (f : Fields d mem s before one u) where
      pub fields-refused : u ≡ false → Turn d mem s before one false
      fields-refused p = record {
        answer = ended-second _ fields _ t u true e q f.pass.answer p ∙ all-tests (all_which (claim_met d mem s before));
        arenas = λ z. absurd (false≢true z);
        texts = λ z. absurd (false≢true z);
      }

      claims-same : all_which (claim_met d mem s one) ≡ all_which (claim_met d mem s before)
      unfolding all_which
      claims-same =
          ap₂ ◌&&◌ (ap₂ ◌&&◌ (met-same children one before (f.arenas children)) (met-same attributes one before (f.arenas attributes)))
          (met-same namespaces one before (f.arenas namespaces))

      pub slot-claimed : u ≡ true → (after : List ℕ) (r : Bool) → Claims d mem s one after r → Turn d mem s before after r
      slot-claimed p after r c = record {
        answer =
            decided-third _ fields _ t u r e q f.pass.answer p (c.answer ∙ claims-same)
            ∙ all-tests (all_which (claim_met d mem s before));
        arenas = λ z w. c.arenas z w ∙ ap (λ (m : List ℕ). block_claimed (arena_in d w mem) m (block_in D w s)) (f.arenas w);
        texts = λ z.
            subst (λ (m : List ℕ). Adds d.counts.texts (held_in (decode_nodes d mem) s) (text_marks d before) m) (sym (c.texts z))
            (f.pass.counts p);
      }

  -- a free slot has no owner, no fields and no block
  free-holds : live_slot D s ≡ false → slot_holds d mem s ≡ true
  unfolding slot_holds owner_holds root_test parent_test fields_hold
  free-holds f = rw f

  free-held : live_slot D s ≡ false → held_in D s ≡ []
  free-held f = rw f

  free-block : live_slot D s ≡ false → (w : Which) → block_in D w s ≡ block 0 0
  free-block f w = rw f

  free-met : live_slot D s ≡ false → (before : List ℕ) (w : Which) → claim_met d mem s before w ≡ true
  unfolding claim_met
  free-met f before w =
      ap (block_claimable (arena_in d w mem) (arena_marks d before w)) (free-block f w)
      ∙ empty-claimable (arena_in d w mem) (arena_marks d before w) 0 0 refl
      ∙ le-leb 0 (length (arena_marks d before w)) (omega arith)

  pub free-passed : (t : Bool) → t ≡ live_slot (decode_nodes d mem) s → t ≡ false → (before : List ℕ) → Turn d mem s before before true
  free-passed t e f before =
      let n : live_slot D s ≡ false = sym e ∙ f in
      record {
        answer = sym (ap₂ ◌&&◌ (free-holds n) (at-which (claim_met d mem s before) (free-met n before)));
        arenas = λ _ w.
            sym (ap (block_claimed (arena_in d w mem) (arena_marks d before w)) (free-block n w)
            ∙ empty-claimed (arena_in d w mem) (arena_marks d before w) 0 0 refl);
        texts = λ _.
            subst (λ (l : List ℕ). Adds d.counts.texts l (text_marks d before) (text_marks d before)) (sym (free-held n))
            (adds_none d.counts.texts (text_marks d before));
      }

-- ---- the marks of the texts as they are lent

module _ (d : Document) (before : List ℕ) (at : ℕ) (ea : at ≡ text_marks_at (limits_of d.limits)) (fits : d.counts.texts ≤ d.limits.texts) (long : scratch_words (limits_of d.limits) ≤ length before) where
  abbrev given : List ℕ
  given = take (at + d.counts.texts - at) (drop at before)

  pub lent-size : length (take (at + d.counts.texts - at) (drop at before)) ≡ d.counts.texts
  lent-size = ap length (lent before at d.counts.texts) ∙ length_part before at d.counts.texts (omega (arith, text-marks-inside d fits))

  lent-marks : given ≡ text_marks d before
  unfolding text_marks
  lent-marks = lent before at d.counts.texts ∙ ap (λ (i : ℕ). part i d.counts.texts before) ea

  pub lent-counted : (l : List ℕ) → Counted d.counts.texts l (text_marks d before) → Counted d.counts.texts l (take (at + d.counts.texts - at) (drop at before))
  lent-counted l c = subst (λ (m : List ℕ). Counted d.counts.texts l m) (sym lent-marks) c

  pub fields_lent : (mem : List ℕ) (s : ℕ) (marks : List ℕ) (r : Bool) → length marks ≡ length (take (at + d.counts.texts - at) (drop at before))
      → Pass (length (take (at + d.counts.texts - at) (drop at before))) (fields_hold d.counts.texts d.counts.names (decode_nodes d mem) s) (held_in (decode_nodes d mem) s)
      (take (at + d.counts.texts - at) (drop at before)) marks r
      → Fields d mem s before (take at before ++ (marks ++ drop (at + d.counts.texts - at) (drop at before))) r
  fields_lent mem s marks r k p =
      let texts = d.counts.texts in
      let test : Bool = fields_hold d.counts.texts d.counts.names (decode_nodes d mem) s in
      let held : List ℕ = held_in (decode_nodes d mem) s in
      let n : length marks ≡ texts = k ∙ lent-size in
      let back : take at before ++ (marks ++ drop (at + texts - at) (drop at before)) ≡ put (text_marks_at (limits_of d.limits)) marks before =
      returned before marks at texts n ∙ ap (λ (i : ℕ). put i marks before) ea in
      record {
        pass =
            subst (λ (m : List ℕ). Pass texts test held (text_marks d before) m r) (sym (ap (text_marks d) back ∙ texts-here d before marks n fits long))
            (subst (λ (m : List ℕ). Pass texts test held m marks r) lent-marks (pass-at (length given) texts test held given marks r lent-size p));
        arenas = λ w. ap (λ (m : List ℕ). arena_marks d m w) back ∙ arenas-ahead d before marks n fits long w;
      }

-- ---- the turns so far

pub record Sofar (d : Document) (mem scratch : List ℕ) (s : ℕ) : Type 0 where
  pub at : s ≤ slots_made d
  pub tests : all_below (slot_holds d mem) s ≡ true
  pub arenas : (w : Which) → arena_marks d scratch w ≡ marks_after (arena_in d w mem) (block_in (decode_nodes d mem) w) s
  pub claims : (w : Which) → all_claimable (arena_in d w mem) (block_in (decode_nodes d mem) w) s ≡ true
  pub counted : Counted d.counts.texts (gathered (held_in (decode_nodes d mem)) s) (text_marks d scratch)

module _ (d : Document) (mem : List ℕ) where
  abbrev doc : Doc
  doc = decode_nodes d mem

  pub sofar-none : (scratch : List ℕ) → Cleared d scratch → Sofar d mem scratch 0
  unfolding marks_after all_claimable
  sofar-none scratch c = record {
    at = omega arith;
    tests = refl;
    arenas = c.arenas;
    claims = λ w. refl;
    counted = record {
      mark = λ x b. ap (λ (m : List ℕ). get_or m x 0) c.texts ∙ get_or-replicate d.counts.texts x 0 0 b;
    };
  }

  all-claims : (w : Which) → all_claimable (arena_in d w mem) (block_in doc w) (slots_made d) ≡ claims_met doc w
  unfolding claims_met
  all-claims w = ap (all_claimable (arena_in d w mem) (block_in doc w)) (sym (length-gens no_texts [] true d mem))

  tests-held : slots_hold d mem ≡ true → all_below (slot_holds d mem) (slots_made d) ≡ true
  unfolding slots_hold
  tests-held e = and_left (all_below (slot_holds d mem) (slots_made d)) (all_which (claims_met doc)) e

  claims-held : slots_hold d mem ≡ true → (w : Which) → claims_met doc w ≡ true
  unfolding slots_hold
  claims-held e = which-at (claims_met doc) (and_right (all_below (slot_holds d mem) (slots_made d)) (all_which (claims_met doc)) e)

  all_held : all_below (slot_holds d mem) (slots_made d) ≡ true → ((w : Which) → claims_met doc w ≡ true) → slots_hold d mem ≡ true
  unfolding slots_hold
  all_held t c = ap₂ ◌&&◌ t (at-which (claims_met doc) c)

  module _ (s : ℕ) (before after : List ℕ) (r : Bool) (h : Sofar d mem before s) (c : Turn d mem s before after r)
      (count : ℕ) (made : count ≡ slots_made d) (below : s < count) where
    b : s < slots_made d
    b = omega arith

    -- a claim is made over the marks of those before
    met-here : (w : Which) → claim_met d mem s before w ≡ block_claimable (arena_in d w mem) (marks_after (arena_in d w mem) (block_in doc w) s) (block_in doc w s)
    unfolding claim_met
    met-here w = ap (λ (m : List ℕ). block_claimable (arena_in d w mem) m (block_in doc w s)) (h.arenas w)

    turn_holds : slots_hold d mem ≡ true → r ≡ true
    unfolding all_claimable
    turn_holds e =
        c.answer
        ∙ ap₂ ◌&&◌ (all_below-at (slot_holds d mem) (slots_made d) (tests-held e) s b)
        (at-which (claim_met d mem s before) (λ w.
        met-here w
        ∙ all_below-at (λ (k : ℕ). block_claimable (arena_in d w mem) (marks_after (arena_in d w mem) (block_in doc w) k) (block_in doc w k)) (slots_made d)
        (all-claims w ∙ claims-held e w) s b))

    pub sofar-not : r ≡ false → Each d mem after false
    sofar-not q = record { answer = go (slots_hold d mem) refl; counted = λ z. absurd (false≢true z) }
      where
        go : (t : Bool) → slots_hold d mem ≡ t → false ≡ slots_hold d mem
        go true e = absurd (false≢true (sym q ∙ turn_holds e))
        go false e = sym e

    module _ (q : r ≡ true) where
      passed : (slot_holds d mem s && all_which (claim_met d mem s before)) ≡ true
      passed = sym c.answer ∙ q

      pub sofar-next : Sofar d mem after (s + 1)
      unfolding marks_after all_claimable
      sofar-next = record {
        at = omega (arith, b);
        tests = all_below-next (slot_holds d mem) s h.tests (and_left (slot_holds d mem s) (all_which (claim_met d mem s before)) passed);
        arenas = λ w.
            c.arenas q w
            ∙ ap (λ (m : List ℕ). block_claimed (arena_in d w mem) m (block_in doc w s)) (h.arenas w)
            ∙ sym (ap (marks_after (arena_in d w mem) (block_in doc w)) (add-one s));
        claims = λ w.
            all_below-next (λ (k : ℕ). block_claimable (arena_in d w mem) (marks_after (arena_in d w mem) (block_in doc w) k) (block_in doc w k)) s (h.claims w)
            (sym (met-here w) ∙ which-at (claim_met d mem s before) (and_right (slot_holds d mem s) (all_which (claim_met d mem s before)) passed) w);
        counted =
            subst (λ (l : List ℕ). Counted d.counts.texts l (text_marks d after)) (sym (gathered_next (held_in doc) s))
            ((c.texts q).adds (gathered (held_in doc) s) h.counted);
      }

  pub sofar-all : (s : ℕ) (scratch : List ℕ) → Sofar d mem scratch s → (count : ℕ) → count ≡ slots_made d → count ≤ s → Each d mem scratch true
  sofar-all s scratch h count made b =
      let e : s ≡ slots_made d = omega (arith, h.at) in
      record {
        answer =
            sym (all_held (ap (all_below (slot_holds d mem)) (sym e) ∙ h.tests)
            (λ w. sym (all-claims w) ∙ ap (all_claimable (arena_in d w mem) (block_in doc w)) (sym e) ∙ h.claims w));
        counted = λ _. subst (λ (n : ℕ). Counted d.counts.texts (gathered (held_in doc) n) (text_marks d scratch)) e h.counted;
      }

  -- ---- the rules

  module _ (ok : memory_ok d (length mem) ≡ true) (within : counts_within (limits_of d.limits) d.counts ≡ true) where
    abbrev all-fields : Bool
    all-fields = all_below (fields_hold d.counts.texts d.counts.names (decode_nodes d mem)) (slots_made d)

    slots-are : slots_hold d mem ≡ (only_root (decode_nodes d mem) && parents_hold (decode_nodes d mem) && all-fields && blocks_hold (decode_nodes d mem))
    unfolding slots_hold slot_holds owner_holds
    slots-are =
        ap₂ ◌&&◌
        (all_below-and (λ i. root_test doc i && parent_test doc i) (fields_hold d.counts.texts d.counts.names doc) (slots_made d)
        ∙ ap (λ (t : Bool). t && all-fields) (all_below-and (root_test doc) (parent_test doc) (slots_made d) ∙ ap₂ ◌&&◌ (all-roots d mem) (all-parents d mem)))
        (blocks-decided d mem ok)

    each-are : (slots_hold d mem && pool_holds d mem) ≡ each_holds d mem
    unfolding each_holds
    each-are =
        ap (λ (t : Bool). t && pool_holds d mem) slots-are
        ∙ regrouped (only_root doc && parents_hold doc) all-fields (blocks_hold doc) (pool_holds d mem)
        ∙ ap (λ (t : Bool). only_root doc && parents_hold doc && blocks_hold doc && t) (texts-are d mem ok within)
      where
        regrouped : (p f b t : Bool) → (p && f && b && t) ≡ (p && b && (f && t))
        regrouped true true b t = refl
        regrouped true false true t = refl
        regrouped true false false t = refl
        regrouped false f b t = refl

    module _ (after : List ℕ) (t : Bool) (e : Each d mem after t) where
      pub each-refused : t ≡ false → false ≡ each_holds d mem
      each-refused q = ended (slots_hold d mem) (pool_holds d mem) t true e.answer q ∙ each-are

      pub pool-decides : t ≡ true → (r : Bool) → r ≡ pool_holds d mem → r ≡ each_holds d mem
      pool-decides q r f = decided (slots_hold d mem) (pool_holds d mem) t r e.answer q f ∙ each-are
