-- Handles and their words, both ways.
-- Assumes nothing.
use mathlib.Core.Path.{◌≡◌, sym, ap, ◌∙◌}
use Prim.Native.Nat.{ℕ, ◌<◌}
use native.Mathlib.Omega.{arith}
use Rattle.records.specs.declared.NodeId.{NodeId}
use Rattle.records.specs.Handles.{handle_index, handle_generation, word_of, id_of}

-- any word is the word of its handle
pub word_of-id_of : (w : ℕ) → word_of (id_of w) ≡ w
word_of-id_of w = omega arith

-- the two halves of a handle's word
pub handle_index-word_of : (h : NodeId) → h.index < 4294967296 → handle_index (word_of h) ≡ h.index
handle_index-word_of h b = omega arith

pub handle_generation-word_of : (h : NodeId) → h.index < 4294967296 → handle_generation (word_of h) ≡ h.generation
handle_generation-word_of h b = omega arith

pub id_of-word_of : (h : NodeId) → h.index < 4294967296 → id_of (word_of h) ≡ h
id_of-word_of h b = rw (handle_index-word_of h b, handle_generation-word_of h b)

-- words of handles are equal only where the handles are
pub word_of-same : (h k : NodeId) → h.index < 4294967296 → k.index < 4294967296 → word_of h ≡ word_of k → h ≡ k
word_of-same h k a b e = sym (id_of-word_of h a) ∙ ap id_of e ∙ id_of-word_of k b

-- the halves of a word are of 32 bits, and a handle's word is of 64
pub handle_index-fits : (w : ℕ) → handle_index w < 4294967296
handle_index-fits w = omega arith

pub handle_generation-fits : (w : ℕ) → w < 18446744073709551616 → handle_generation w < 4294967296
handle_generation-fits w b = omega arith

pub word_of-fits : (h : NodeId) → h.index < 4294967296 → h.generation < 4294967296 → word_of h < 18446744073709551616
word_of-fits h a b = omega arith
