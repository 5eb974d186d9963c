-- The first element of a block, entry by entry.
-- Assumes nothing.
use Rattle.std.specs.Prelude.{Some}
use mathlib.Core.Path.{◌≡◌, sym, ap, ◌∙◌}
use mathlib.Core.Bool.{Bool, true, false, cond}
use mathlib.Core.List.{List}
use Prim.Native.Nat.{ℕ, suc, ◌+◌, ◌<◌}
use native.Mathlib.Numerals.{add-one}
use lib.ListN.{length, get_or, drop}
use lib.Seq.{drop-cons}
use Rattle.words.specs.Lists.{find}
use Rattle.blocks.specs.Arena.{Block, list_of}
use Rattle.records.specs.Handles.{word_of, id_of}
use Rattle.records.specs.declared.NodeId.{NodeId}
use Rattle.records.proofs.Handles.{word_of-id_of}
use Rattle.model.specs.Kinds.{children}
use Rattle.model.specs.Doc.{root_handle, shown_block, shows_element}
use Rattle.model.specs.Calls.{Answered, node, step, root-element}
use Rattle.layout.specs.declared.Document.{Document}
use Rattle.memory.specs.Decode.{arena_in, decode}

-- what is found in a list is what is found behind the entries that were looked at
module _ (p : ℕ → Bool) (l : List ℕ) (k : ℕ) (inv : find p l ≡ find p (drop k l)) (h : k < length l) (id : NodeId) (i : id ≡ id_of (get_or l k 0)) (t : Bool) (q : t ≡ p (word_of id)) where
  looked : find p l ≡ cond t (Some (word_of id)) (find p (drop (k + 1) l))
  looked =
      let same : get_or l k 0 ≡ word_of id = sym (ap word_of i ∙ word_of-id_of (get_or l k 0)) in
      rw (q, add-one) (inv ∙ ap (find p) (drop-cons l k 0 h) ∙ ap (λ (x : ℕ). cond (p x) (Some x) (find p (drop (suc k) l))) same)

  pub found-here : t ≡ true → Some (word_of id) ≡ find p l
  found-here y = sym (looked ∙ rw y)

  pub found-later : t ≡ false → find p l ≡ find p (drop (k + 1) l)
  found-later y = looked ∙ rw y

-- the root element is the first of the Root's list
pub root-shown : (d : Document) (mem : List ℕ) (b : Block) (a : Answered) → b ≡ shown_block (decode d mem) children root_handle
    → a ≡ node (find (shows_element (decode d mem)) (list_of (arena_in d children mem) b)) → a ≡ (step root-element (decode d mem)).answer
root-shown d mem b a e q = q ∙ ap (λ (c : Block). node (find (shows_element (decode d mem)) (list_of (arena_in d children mem) c))) e
