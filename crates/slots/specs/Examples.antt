-- 01, "Bench examples": what the starred examples 1, 2 and 6 say of slots and handles.
use Rattle.std.specs.Prelude.{◌≡◌, ℕ, true, false, List, replicate, Some}
use Rattle.records.specs.declared.NodeId.{NodeId}
use Rattle.records.specs.declared.NodeData.TheVariants.{Text}
use Rattle.records.specs.declared.Node.{Node}
use Rattle.records.specs.Records.{record_of}
use Rattle.slots.specs.Regions.{slots_words, put_generation, put_record}
use Rattle.slots.specs.Slots.{up, resolves, taken, taken_words, freed_words}

abbrev pub handle : ℕ → ℕ → NodeId
handle i g = record { index = i; generation = g }

-- a text of slot 0 under the handle (1, 0)
abbrev pub text : Node
text = record { «data» = Text (Some (record { 0 = 0 })); parent = Some (handle 1 0); children = record { start = 0; len = 0 } }

-- room for four slots, of which the Root's is made: all words zero
abbrev pub fresh : List ℕ
fresh = replicate (slots_words 4) 0

-- an element, a text in it, a text under the Root
abbrev pub one : List ℕ
one = taken_words 4 fresh 1 0

abbrev pub two : List ℕ
two = put_record 4 (taken_words 4 one 2 0) 2 (record_of text)

abbrev pub three : List ℕ
three = taken_words 4 two 3 0

-- slot 2 is freed, and taken again for the next text
abbrev pub removed : List ℕ
removed = freed_words 4 three 0 2

abbrev pub again : List ℕ
again = put_record 4 (taken_words 4 removed 4 1) 2 (record_of text)

-- slot 1 at generation 4,294,967,294, freed
abbrev pub last : List ℕ
last = put_generation 4 fresh 1 4294967294

abbrev pub wrapped : List ℕ
wrapped = freed_words 4 last 0 1

pub record SlotExamples : Type 0 where
  -- 1: the handles (1, 0), (2, 0), (3, 0)
  pub first-handle : (taken 4 fresh 1 0).id ≡ handle 1 0
  pub second-handle : (taken 4 one 2 0).id ≡ handle 2 0
  pub third-handle : (taken 4 two 3 0).id ≡ handle 3 0
  pub second-resolves : resolves 4 three 4 (handle 2 0) ≡ true
  -- 2: "remove (2, 0); the next text is (2, 2), and (2, 0) is Stale"
  pub removed-stale : resolves 4 removed 4 (handle 2 0) ≡ false
  pub odd-stale : resolves 4 removed 4 (handle 2 1) ≡ false
  pub next-handle : (taken 4 removed 4 1).id ≡ handle 2 2
  pub next-resolves : resolves 4 again 4 (handle 2 2) ≡ true
  pub still-stale : resolves 4 again 4 (handle 2 0) ≡ false
  -- 6: "Generation 4,294,967,294 freed, reused: 0."
  pub wraps : up (up 4294967294) ≡ 0
  pub wrapped-handle : (taken 4 wrapped 2 1).id ≡ handle 1 0
