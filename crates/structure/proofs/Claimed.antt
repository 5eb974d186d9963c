-- Rule 5: the claims that the blocks of all slots make are those of the document's blocks, and they are met exactly where the rule holds.
-- Assumes nothing.
use mathlib.Core.Path.{◌≡◌, refl, sym, ap, ap₂, ◌∙◌, subst}
use mathlib.Core.Bool.{Bool, true, false, cond, and-true}
use mathlib.Core.List.{List, [], ◌++◌}
use Prim.Native.Nat.{ℕ, ◌+◌, ◌-◌, ◌≤◌}
use native.Mathlib.Omega.{arith}
use lib.ListN.{length, take, drop, replicate, length-replicate}
use lib.Dec.{leb}
use Rattle.words.specs.Parts.{part, put}
use Rattle.words.proofs.Parts.{lent, returned, length_part, part_none, put-nil, put_same}
use Rattle.blocks.specs.Arena.{Arena, Block, block, arena_of}
use Rattle.blocks.specs.Rule.{Shaped}
use Rattle.blocks.specs.Claims.{claimable, claimed, block_claimable, block_claimed}
use Rattle.blocks.proofs.Decision.{decided-rule, rule-decided}
use Rattle.model.specs.Kinds.{Which, children, attributes, namespaces}
use Rattle.model.specs.Doc.{Doc, Limits, live_slot, range_in}
use Rattle.model.specs.Rules.{block_in}
use Rattle.model.specs.RulesTest.{all_which, blocks_hold}
use Rattle.laws.proofs.Quantifiers.{which-at, at-which}
use Rattle.laws.proofs.RulesTestBlocks.{blocks-of-test, test-of-blocks}
use Rattle.layout.specs.declared.Document.{Document}
use Rattle.layout.specs.Layout.{limits_of, scratch_words, memory_ok}
use Rattle.memory.specs.Decode.{arena_part, arena_used, arena_in}
use Rattle.memory.proofs.Columns.{length-gens, live-past}
use Rattle.memory.proofs.Shaped.{length_ids, length-caps, shape}
use Rattle.entries.specs.Nodes.{no_texts, decode_nodes}
use Rattle.structure.specs.Scratch.{marks_at, text_marks_at}
use Rattle.structure.specs.Tests.{claims_met}
use Rattle.structure.specs.Turns.{Claim}
use Rattle.structure.proofs.Lists.{both_ways}

-- ---- an empty block claims nothing

module _ (a : Arena) (m : List ℕ) (first : ℕ) where
  none-claimable : claimable m first 0 ≡ leb first (length m)
  unfolding claimable
  none-claimable =
      let e : first + 0 ≡ first = omega arith in
      rw (e, part_none m first) (and-true (leb first (length m)))

  none-claimed : claimed m first 0 ≡ m
  unfolding claimed
  none-claimed = go (claimable m first 0)
    where
      go : (t : Bool) → cond t (put first (replicate {A = ℕ} 0 1) m) m ≡ m
      go true = put-nil m first []
      go false = refl

  pub empty-claimable : (len : ℕ) → len ≡ 0 → block_claimable a m (block first len) ≡ leb first (length m)
  empty-claimable len z = rw z none-claimable

  pub empty-claimed : (len : ℕ) → len ≡ 0 → block_claimed a m (block first len) ≡ m
  empty-claimed len z = rw z none-claimed

pub claim-empty : (a : Arena) (at : ℕ) (before : List ℕ) → at + a.used ≤ length before → (b : Block) → b.len ≡ 0 → Claim a b at before before (leb b.start a.used)
claim-empty a at before h b z = record {
  answer = ap (leb b.start) (sym (length_part before at a.used h)) ∙ sym (empty-claimable a (part at a.used before) b.start b.len z);
  marks = sym (ap (λ (v : List ℕ). put at v before) (empty-claimed a (part at a.used before) b.start b.len z) ∙ put_same before at a.used h);
}

-- ---- a claim over the marks as they are lent

module _ (words scratch marks : List ℕ) (limit at used : ℕ) (b : Block) (r : Bool) where
  pub claim-lent : at + used ≤ length scratch → length marks ≡ length (take (at + used - at) (drop at scratch))
      → ((u : ℕ) → r ≡ block_claimable (arena_of limit u words) (take (at + used - at) (drop at scratch)) b)
      × ((u : ℕ) → marks ≡ block_claimed (arena_of limit u words) (take (at + used - at) (drop at scratch)) b)
      → Claim (arena_of limit used words) b at scratch (take at scratch ++ (marks ++ drop (at + used - at) (drop at scratch))) r
  claim-lent h k f =
      let q = lent scratch at used in
      let e : length marks ≡ used = k ∙ ap length q ∙ length_part scratch at used h in
      record {
        answer = f.0 used ∙ ap (λ (m : List ℕ). block_claimable (arena_of limit used words) m b) q;
        marks =
            returned scratch marks at used e
            ∙ ap (λ (v : List ℕ). put at v scratch) (f.1 used ∙ ap (λ (m : List ℕ). block_claimed (arena_of limit used words) m b) q);
      }

-- the same in the document's words
module _ (d : Document) (mem : List ℕ) (w : Which) (i : ℕ) (live : live_slot (decode_nodes d mem) i ≡ true) (words : List ℕ) (limit at used : ℕ) (es : words ≡ arena_part d w mem) (el : limit ≡ (limits_of d.limits).entries w)
    (ea : at ≡ marks_at (limits_of d.limits) w) (eu : used ≡ arena_used d w) where
  pub claim-read : (b : Block) → b ≡ range_in (decode_nodes d mem) w i → (before after : List ℕ) (r : Bool)
      → Claim (arena_of limit used words) b at before after r → Claim (arena_in d w mem) (block_in (decode_nodes d mem) w i) (marks_at (limits_of d.limits) w) before after r
  claim-read b q before after r c =
      let e : b ≡ block_in (decode_nodes d mem) w i = q ∙ sym (rw live) in
      let a : arena_of limit used words ≡ arena_in d w mem = rw (es, el, eu) in
      subst (λ (p : ℕ). Claim (arena_in d w mem) (block_in (decode_nodes d mem) w i) p before after r) ea
      (subst (λ (x : Block). Claim (arena_in d w mem) x at before after r) e
      (subst (λ (y : Arena). Claim y b at before after r) a c))

-- ---- where the marks lie

marks-within : (l : Limits) (w : Which) → marks_at l w + l.entries w ≤ scratch_words l
unfolding marks_at scratch_words
marks-within l children = omega arith
marks-within l attributes = omega arith
marks-within l namespaces = omega arith

pub marks-before-texts : (d : Document) (w : Which) → marks_at (limits_of d.limits) w + arena_used d w ≤ text_marks_at (limits_of d.limits)
unfolding marks_at text_marks_at
marks-before-texts d children = omega arith
marks-before-texts d attributes = omega arith
marks-before-texts d namespaces = omega arith

pub text-marks-inside : (d : Document) → d.counts.texts ≤ d.limits.texts → text_marks_at (limits_of d.limits) + d.counts.texts ≤ scratch_words (limits_of d.limits)
unfolding text_marks_at scratch_words
text-marks-inside d h = omega arith

pub cleared_at : (at used p u : ℕ) (before marks : List ℕ) → at ≡ p → used ≡ u → marks ≡ replicate used 0
    → take at before ++ (marks ++ drop (at + used - at) (drop at before)) ≡ put p (replicate u 0) before
cleared_at at used p u before marks e f q =
    returned before marks at used (ap length q ∙ length-replicate used 0)
    ∙ ap (λ (v : List ℕ). put at v before) q
    ∙ ap₂ (λ (i n : ℕ). put i (replicate n 0) before) e f

pub marks_inside : (d : Document) (w : Which) → marks_at (limits_of d.limits) w + arena_used d w ≤ scratch_words (limits_of d.limits)
marks_inside d w = omega (arith, marks-within (limits_of d.limits) w)

-- ---- the rule

module _ (d : Document) (mem : List ℕ) (ok : memory_ok d (length mem) ≡ true) where
  abbrev doc : Doc
  doc = decode_nodes d mem

  arena-shaped : (w : Which) → Shaped (arena_in d w mem)
  arena-shaped w = record {
    fits = omega (arith, length_ids d mem ok w);
    paired = length-caps d mem ok w ∙ sym (length_ids d mem ok w);
  }

  block-past : (w : Which) (k : ℕ) → length doc.gens ≤ k → block_in doc w k ≡ block 0 0
  block-past w k h = rw (live-past no_texts [] true d mem k (omega (arith, length-gens no_texts [] true d mem)))

  rest : (w : Which) (k : ℕ) → length doc.gens ≤ k → ((block_in doc w k).len ≡ 0) × ((block_in doc w k).start ≤ (arena_in d w mem).used)
  rest w k h =
      let e = block-past w k h in
      (ap (λ (x : Block). x.len) e, omega (arith, ap (λ (x : Block). x.start) e))

  pub blocks-decided : all_which (claims_met doc) ≡ blocks_hold doc
  unfolding claims_met
  blocks-decided =
      both_ways (all_which (claims_met doc)) (blocks_hold doc)
      (λ e. test-of-blocks doc (λ w. decided-rule (arena_in d w mem) (block_in doc w) (length doc.gens) (arena-shaped w) (rest w) (which-at (claims_met doc) e w)))
      (λ e. at-which (claims_met doc) (λ w. rule-decided (arena_in d w mem) (block_in doc w) (length doc.gens) (blocks-of-test doc (shape no_texts [] true d mem ok) e w)))
