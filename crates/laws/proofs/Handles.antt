-- Laws of the handle's word: its two halves, and a word from its halves.
-- Assumes nothing.
use mathlib.Core.Path.{◌≡◌, sym, ap₂, ◌∙◌}
use Prim.Native.Nat.{ℕ, ◌<◌}
use Rattle.records.specs.Handles.{handle_index, handle_generation}
use Rattle.records.proofs.Handles.{word_of-id_of, handle_index-word_of, handle_generation-word_of}
use Rattle.model.specs.Doc.{handle_word}

pub index-handle_word : (i g : ℕ) → i < 4294967296 → handle_index (handle_word i g) ≡ i
index-handle_word i g h = handle_index-word_of (record { index = i; generation = g }) h

pub generation-handle_word : (i g : ℕ) → i < 4294967296 → handle_generation (handle_word i g) ≡ g
generation-handle_word i g h = handle_generation-word_of (record { index = i; generation = g }) h

pub handle_word-halves : (h : ℕ) → handle_word (handle_index h) (handle_generation h) ≡ h
handle_word-halves h = word_of-id_of h

-- handles with equal halves are equal
pub handle-same : (h k : ℕ) → handle_index h ≡ handle_index k → handle_generation h ≡ handle_generation k → h ≡ k
handle-same h k e f = sym (handle_word-halves h) ∙ ap₂ handle_word e f ∙ handle_word-halves k
