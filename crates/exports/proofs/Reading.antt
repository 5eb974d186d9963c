-- A reading call's promise from that of the call behind it and what was written.
-- Assumes nothing.
use Rattle.words.specs.declared.TextSlot.{TextSlot}
use Rattle.std.specs.Prelude.{Result, Ok, Err, Some, None, Option}
use mathlib.Core.Path.{◌≡◌, refl, sym, ap, subst, ◌∙◌}
use mathlib.Core.Bool.{Bool, true≢false, false≢true}
use mathlib.Core.List.{List}
use Prim.Native.Nat.{ℕ, ◌+◌, ◌-◌}
use native.Mathlib.Omega.{arith}
use lib.ListN.{length, take}
use borrow.Author.Tests.{ne_eqb}
use Rattle.words.specs.Parts.{put}
use Rattle.records.specs.declared.NodeId.{NodeId}
use Rattle.records.specs.declared.NodeData.{NodeData}
use Rattle.records.specs.declared.NodeData.TheVariants as goal
use Rattle.records.specs.Handles.{word_of, id_of}
use Rattle.records.specs.Records.{chars_word}
use Rattle.records.proofs.Handles.{word_of-id_of}
use Rattle.model.specs.Refusals.{number_of}
use Rattle.model.specs.declared.Refusal.{Refusal}
use Rattle.words.specs.declared.NameId.{NameId}
use Rattle.records.specs.declared.Range.{Range}
use Rattle.model.specs.Kinds.{Which}
use Rattle.model.specs.Calls.{Call, Answered, refused, truth, name_of}
use Rattle.layout.specs.declared.Document.{Document}
use Rattle.memory.specs.Decode.{slot_of}
use Rattle.reading.specs.Answers.{of_truth, of_node, of_root, of_list, of_key, of_kind, of_name, name_part}
use Rattle.reading.specs.Contract.{reads}
use Rattle.editing.proofs.Numbers.{never-zero}
use Rattle.encoding.specs.Records.{document_of, lent_record}
use Rattle.encoding.specs.Given.{Given, status_of, given_to, root_words, truth_words, node_words, key_words, list_words, name_words, data_words, kind_words}
use Rattle.exports.specs.Contract.{Telling, as_made, as_truth, as_node, as_key, as_list, slot_told, as_kind, as_name, Returned, ExportedRead}
use Rattle.names.specs.Table.{name}
use Rattle.exports.proofs.Beyond.{own_name}
use Rattle.encoding.proofs.Records.{Whole, not-lent, truth-back}
use Rattle.exports.proofs.Exporting.{front, told-refused, returned-words, returned-none}

-- ---- what is given tells the answer

abbrev pub Sized : ℕ → Given → Type 0
Sized n (Err why) = Unit {0}
Sized n (Ok vs) = length vs ≡ n

abbrev pub answer_of : Telling → Document → List ℕ → Given → Answered
answer_of telling d mem (Err why) = refused (number_of why)
answer_of telling d mem (Ok vs) = telling vs d mem

pub record Tells (n : ℕ) (telling : Telling) (d : Document) (mem : List ℕ) (g : Given) (a : Answered) : Type 0 where
  pub sized : Sized n g
  pub answer : answer_of telling d mem g ≡ a

module _ (d : Document) (mem : List ℕ) where
  pub tells-root : (r : Result NodeId Refusal) → Tells 1 as_made d mem (root_words r) (of_root r)
  tells-root (Ok id) = record { sized = refl; answer = refl }
  tells-root (Err why) = record { sized = tt; answer = refl }

  pub tells-truth : (r : Result Bool Refusal) → Tells 1 as_truth d mem (truth_words r) (of_truth r)
  tells-truth (Ok t) = record { sized = refl; answer = ap (λ (u : Bool). truth u) (truth-back t) }
  tells-truth (Err why) = record { sized = tt; answer = refl }

  pub tells-node : (r : Result (Option NodeId) Refusal) → Tells 2 as_node d mem (node_words r) (of_node r)
  tells-node (Ok (Some id)) = record { sized = refl; answer = refl }
  tells-node (Ok None) = record { sized = refl; answer = refl }
  tells-node (Err why) = record { sized = tt; answer = refl }

  pub tells-key : (r : Result (Option ℕ) Refusal) → Tells 2 as_key d mem (key_words r) (of_key r)
  tells-key (Ok (Some n)) = record { sized = refl; answer = refl }
  tells-key (Ok None) = record { sized = refl; answer = refl }
  tells-key (Err why) = record { sized = tt; answer = refl }

  pub tells-list : (w : Which) (r : Result Range Refusal) → Tells 2 (as_list w) d mem (list_words r) (of_list d mem w r)
  tells-list w (Ok b) = record { sized = refl; answer = refl }
  tells-list w (Err why) = record { sized = tt; answer = refl }

  -- a text's word tells its slot
  slot-told : (t : Option TextSlot) → slot_told (chars_word t) ≡ slot_of t
  slot-told None = refl
  slot-told (Some s) =
      let e : s.0 + 1 - 1 ≡ s.0 = omega arith in
      rw (ne_eqb (s.0 + 1) 0 (λ z. omega arith), e)

  kind-told : (v : NodeData) → as_kind (data_words v) d mem ≡ of_kind d mem (Ok (Some v))
  unfolding data_words
  kind-told goal.Root = refl
  kind-told (goal.Element n a s) = refl
  kind-told (goal.Attr n v) = rw (slot-told v)
  kind-told (goal.Text v) = rw (slot-told v)
  kind-told (goal.Comment v) = rw (slot-told v)
  kind-told (goal.Namespace p u) = rw (slot-told p, slot-told u)
  kind-told (goal.ProcessingInstruction t c) = rw (slot-told t, slot-told c)

  pub tells-kind : (r : Result (Option NodeData) Refusal) → Tells 8 as_kind d mem (kind_words r) (of_kind d mem r)
  unfolding data_words
  tells-kind (Ok (Some v)) = record { sized = refl; answer = kind-told v }
  tells-kind (Ok None) = record { sized = refl; answer = refl }
  tells-kind (Err why) = record { sized = tt; answer = refl }

  pub tells-name : (n : ℕ) (r : Result (Option NameId) Refusal) → of_name d mem r ≡ reads (name_of n) d mem → Tells 1 (as_name n) d mem (name_words r) (reads (name_of n) d mem)
  tells-name n (Ok (Some m)) e = record { sized = refl; answer = own_name d mem n (name (name_part d mem m.0 0) (name_part d mem m.0 1)) e }
  tells-name n (Ok None) e = record { sized = refl; answer = e }
  tells-name n (Err why) e = record { sized = tt; answer = e }

-- ---- a handle is given by its word

pub read_word : (f : ℕ → Call) (w : ℕ) (id : NodeId) → id ≡ id_of w → (d : Document) (mem : List ℕ) (a : Answered) → a ≡ reads (f (word_of id)) d mem → a ≡ reads (f w) d mem
read_word f w id e d mem a x = x ∙ ap (λ (h : ℕ). reads (f h) d mem) (ap word_of e ∙ word_of-id_of w)

-- ---- the promise

module _ (c : Call) (n : ℕ) (telling : Telling) (document mem out : List ℕ) where
  pub read_short : (l : Option Document) → l ≡ lent_record document (length out) n → l ≡ None → ExportedRead c n telling document mem out 4 out
  read_short l e s = record {
    short = λ f. (refl, refl);
    shows = λ t. absurd (false≢true (sym (not-lent document (length out) n l e s) ∙ t));
    answer = returned-none out n 4 (λ z. omega arith);
  }

  module _ (d : Document) (l : Whole document (length out) n d) where
    shown : (g : Given) (a : Answered) → Tells n telling d mem g a → a ≡ reads c d mem → ExportedRead c n telling document mem out (status_of g) (given_to out g)
    shown (Err why) a t e = record {
      short = λ f. absurd (true≢false (sym l.lent ∙ f));
      shows = λ q. rw (told-refused why (telling (take n out) (document_of document) mem), ← l.is) (t.answer ∙ e);
      answer = returned-none out n (number_of why) (λ z. never-zero why z);
    }
    shown (Ok vs) a t e = record {
      short = λ f. absurd (true≢false (sym l.lent ∙ f));
      shows = λ q. rw (← t.sized, front out vs, ← l.is) (t.answer ∙ e);
      answer = subst (λ (k : ℕ). Returned k out 0 (put 0 vs out)) t.sized (returned-words out vs (rw t.sized l.enough));
    }

    pub shows : (g : Given) (a : Answered) (status : ℕ) (out' : List ℕ) → Tells n telling d mem g a → a ≡ reads c d mem
        → (status ≡ status_of g) × (out' ≡ given_to out g) → ExportedRead c n telling document mem out status out'
    shows g a status out' t e q = rw (q.0, q.1) (shown g a t e)
