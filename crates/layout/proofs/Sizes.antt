-- What the limits and test 4 tell of sizes.
-- Assumes nothing.
use mathlib.Core.Path.{◌≡◌, refl, sym}
use mathlib.Core.Bool.{Bool, true, false, ◌&&◌, false≢true}
use mathlib.Core.Logic.{◌⊎◌, inl, inr}
use Prim.Native.Nat.{ℕ, ◌+◌, ◌*◌, ◌≤◌, ◌<◌}
use native.Mathlib.Omega.{arith}
use lib.Dec.{leb, ltb}
use borrow.Author.Tests.{ltb-true, leb-true}
use Rattle.words.proofs.Tests.{and_left, and_right}
use Rattle.slots.specs.Regions.{slots_words}
use Rattle.model.specs.Kinds.{Which, children, attributes, namespaces, same_which}
use Rattle.model.specs.Doc.{Limits, limits_ok}
use Rattle.layout.specs.declared.Limits as given
use Rattle.layout.specs.declared.Counts.{Counts}
use Rattle.layout.specs.declared.Document.{Document}
use Rattle.layout.specs.Layout.{entries_of, limits_of, arena_words, arena_at, texts_at, texts_words, names_at, names_words, document_words, memory_ok}
use Rattle.layout.specs.Record.{record_with}

-- limits that are at most the greatest
pub record LimitsFit (l : Limits) : Type 0 where
  pub some-node : 0 < l.nodes
  pub nodes : l.nodes ≤ 65536
  pub child-entries : l.entries children ≤ 262144
  pub attribute-entries : l.entries attributes ≤ 262144
  pub namespace-entries : l.entries namespaces ≤ 262144
  pub texts : l.texts ≤ 131072
  pub text-bytes : l.text_bytes ≤ 16777216
  pub names : l.names ≤ 4096
  pub name-bytes : l.name_bytes ≤ 1048576

pub limits-fit : (l : Limits) → limits_ok l ≡ true → LimitsFit l
unfolding limits_ok
limits-fit l h =
    let nodes = ltb 0 l.nodes && leb l.nodes 65536 in
    let child = nodes && leb (l.entries children) 262144 in
    let attribute = child && leb (l.entries attributes) 262144 in
    let arenas = attribute && leb (l.entries namespaces) 262144 in
    let texts = arenas && leb l.texts 131072 in
    let bytes = texts && leb l.text_bytes 16777216 in
    let names = bytes && leb l.names 4096 in
    let h8 = and_left names (leb l.name_bytes 1048576) h in
    let h7 = and_left bytes (leb l.names 4096) h8 in
    let h6 = and_left texts (leb l.text_bytes 16777216) h7 in
    let h5 = and_left arenas (leb l.texts 131072) h6 in
    let h4 = and_left attribute (leb (l.entries namespaces) 262144) h5 in
    let h3 = and_left child (leb (l.entries attributes) 262144) h4 in
    let h2 = and_left nodes (leb (l.entries children) 262144) h3 in
    record {
      some-node = ltb-true _ _ (and_left (ltb 0 l.nodes) (leb l.nodes 65536) h2);
      nodes = leb-true _ _ (and_right (ltb 0 l.nodes) (leb l.nodes 65536) h2);
      child-entries = leb-true _ _ (and_right nodes (leb (l.entries children) 262144) h3);
      attribute-entries = leb-true _ _ (and_right child (leb (l.entries attributes) 262144) h4);
      namespace-entries = leb-true _ _ (and_right attribute (leb (l.entries namespaces) 262144) h5);
      texts = leb-true _ _ (and_right arenas (leb l.texts 131072) h6);
      text-bytes = leb-true _ _ (and_right texts (leb l.text_bytes 16777216) h7);
      names = leb-true _ _ (and_right bytes (leb l.names 4096) h8);
      name-bytes = leb-true _ _ (and_right names (leb l.name_bytes 1048576) h);
    }

pub entries_fit : (l : Limits) → LimitsFit l → (w : Which) → l.entries w ≤ 262144
entries_fit l f children = f.child-entries
entries_fit l f attributes = f.attribute-entries
entries_fit l f namespaces = f.namespace-entries

-- ---- the regions lie side by side

module _ (l : Limits) where
  pub texts-next : arena_at l namespaces + arena_words l namespaces ≡ texts_at l
  unfolding arena_at texts_at
  texts-next = refl

  pub names-next : texts_at l + texts_words l ≡ names_at l
  unfolding texts_at names_at
  names-next = refl

  pub words-next : names_at l + names_words l ≡ document_words l
  unfolding names_at document_words
  words-next = refl

  pub arena-behind-slots : (w : Which) → slots_words l.nodes ≤ arena_at l w
  unfolding arena_at
  arena-behind-slots children = omega arith
  arena-behind-slots attributes = omega arith
  arena-behind-slots namespaces = omega arith

  pub arena-inside : (w : Which) → arena_at l w + arena_words l w ≤ texts_at l
  unfolding arena_at texts_at
  arena-inside children = omega arith
  arena-inside attributes = omega arith
  arena-inside namespaces = omega arith

  -- two arenas do not meet
  pub arenas-apart : (v w : Which) → same_which v w ≡ false → (arena_at l v + arena_words l v ≤ arena_at l w) ⊎ (arena_at l w + arena_words l w ≤ arena_at l v)
  unfolding arena_at
  arenas-apart children children e = absurd (false≢true (sym e))
  arenas-apart children attributes e = inl (omega arith)
  arenas-apart children namespaces e = inl (omega arith)
  arenas-apart attributes children e = inr (omega arith)
  arenas-apart attributes attributes e = absurd (false≢true (sym e))
  arenas-apart attributes namespaces e = inl (omega arith)
  arenas-apart namespaces children e = inr (omega arith)
  arenas-apart namespaces attributes e = inr (omega arith)
  arenas-apart namespaces namespaces e = absurd (false≢true (sym e))

  -- all sizes are far below 2^64
  pub words-fit : LimitsFit l → document_words l < 4294967296
  unfolding document_words
  words-fit f = omega arith

-- ---- test 4

module _ (d : Document) (mem : ℕ) where
  pub memory-limits : memory_ok d mem ≡ true → limits_ok (limits_of d.limits) ≡ true
  unfolding memory_ok
  memory-limits h = and_left (limits_ok (limits_of d.limits)) (leb (document_words (limits_of d.limits)) mem) h

  pub memory-long : memory_ok d mem ≡ true → document_words (limits_of d.limits) ≤ mem
  unfolding memory_ok
  memory-long h = leb-true _ _ (and_right (limits_ok (limits_of d.limits)) (leb (document_words (limits_of d.limits)) mem) h)

-- test 4 does not look at the counts
pub memory-record : (d : Document) (mem : ℕ) (counts : Counts) (current : Bool) → memory_ok d mem ≡ true → memory_ok (record_with d counts current) mem ≡ true
unfolding memory_ok
memory-record d mem counts current h = h

-- nor at anything but the limits
pub memory-same : (d r : Document) (mem : ℕ) → r.limits ≡ d.limits → memory_ok d mem ≡ true → memory_ok r mem ≡ true
unfolding memory_ok
memory-same d r mem e h = rw e h

-- what test 4 tells of a buffer of mem words
pub record Sizes (d : Document) (mem : ℕ) : Type 0 where
  pub nodes : d.limits.nodes ≤ 65536
  pub slots : 15 * d.limits.nodes ≤ mem
  pub entries : (w : Which) → entries_of d.limits w ≤ 262144
  pub arena : (w : Which) → arena_at (limits_of d.limits) w + 2 * entries_of d.limits w ≤ mem
  pub narrow : (w : Which) → arena_at (limits_of d.limits) w + 2 * entries_of d.limits w < 4294967296

pub sizes : (d : Document) (mem : ℕ) → memory_ok d mem ≡ true → Sizes d mem
unfolding document_words texts_at
sizes d mem h =
    let l = limits_of d.limits in
    let f = limits-fit l (memory-limits d mem h) in
    let long = memory-long d mem h in
    record {
      nodes = f.nodes;
      slots = omega arith;
      entries = entries_fit l f;
      arena = λ w. omega (arith, arena-inside l w);
      narrow = λ w. omega (arith, arena-inside l w, words-fit l f);
    }

-- all regions together fit a number of 64 bits, and so do the parts that they are added up from
pub regions_small : (l : given.Limits) → limits_ok (limits_of l) ≡ true
    → 15 * l.nodes + 2 * l.children + 2 * l.attributes + 2 * l.namespaces + 2 * l.texts + l.textbytes + 2 * l.names + l.namebytes < 18446744073709551616
regions_small l h =
    let f = limits-fit (limits_of l) h in
    omega arith

-- test 4 includes that of the limits
pub ruleset limits_within = (memory-limits)
