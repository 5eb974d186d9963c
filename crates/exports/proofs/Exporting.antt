-- An exported call's promise from that of the call behind it and what was written.
-- Assumes nothing.
use Rattle.std.specs.Prelude.{Result, Ok, Err, None, Option}
use mathlib.Core.Path.{◌≡◌, refl, sym, ap, subst, ◌∙◌}
use mathlib.Core.Bool.{Bool, true≢false, false≢true}
use mathlib.Core.List.{List, [], ◌∷◌}
use Prim.Native.Nat.{ℕ, ◌≤◌}
use native.Mathlib.Omega.{arith}
use lib.ListN.{length, take}
use borrow.Author.Tests.{ne_eqb}
use Rattle.words.specs.Parts.{part, put}
use Rattle.words.proofs.Parts.{put-nil, length-put, part-put-same}
use Rattle.records.specs.declared.NodeId.{NodeId}
use Rattle.records.specs.Handles.{word_of, id_of}
use Rattle.records.proofs.Handles.{word_of-id_of}
use Rattle.model.specs.Refusals.{number_of}
use Rattle.model.specs.declared.Refusal.{Refusal}
use Rattle.model.specs.Calls.{Call, Answered, refused, done, truth}
use Rattle.layout.specs.declared.Document.{Document}
use Rattle.editing.specs.Contract.{Edits}
use Rattle.tree.specs.Contract.{Starts}
use Rattle.tree.specs.Answers.{of_start, started_record}
use Rattle.layout.specs.declared.Limits.{Limits}
use Rattle.edits.specs.declared.born.NewNode.{NewNode}
use Rattle.editing.specs.Answers.{of_done, after_done, of_made, after_made, of_found, after_found, of_order}
use Rattle.editing.proofs.Numbers.{never-zero}
use Rattle.encoding.specs.Records.{document_of, truth_word, words_of, lent_record}
use Rattle.encoding.specs.Given.{status_of, given_to, done_record, made_record, made_words, found_record, found_words}
use Rattle.exports.specs.Contract.{told, Telling, as_done, as_made, as_truth, as_order, Returned, Exported, ExportedStart}
use Rattle.encoding.proofs.Records.{Whole, not-lent, truth-back, written_back, length-words_of}

-- what was put at the front stands there
pub front : (out vs : List ℕ) → take (length vs) (put 0 vs out) ≡ vs
unfolding part
front out vs = part-put-same out 0 vs (omega arith)

pub told-refused : (w : Refusal) (a : Answered) → told (number_of w) a ≡ refused (number_of w)
told-refused w a = rw (ne_eqb (number_of w) 0 (λ z. never-zero w z))

-- ---- a slice

module _ (out : List ℕ) where
  pub returned-words : (vs : List ℕ) → length vs ≤ length out → Returned (length vs) out 0 (put 0 vs out)
  returned-words vs h = record {
    written = λ e. ap (λ (ws : List ℕ). put 0 ws out) (sym (front out vs));
    kept = λ n. absurd (n refl);
    lent = length-put out 0 vs (omega arith);
  }

  pub returned-none : (n status : ℕ) → (status ≡ 0 → ⊥) → Returned n out status out
  returned-none n status s = record { written = λ e. absurd (s e); kept = λ e. refl; lent = refl }

-- the record that is written
module _ (d : Document) (words : List ℕ) where
  record-returned : 19 ≤ length words → Returned 19 words 0 (put 0 (words_of d) words)
  record-returned h =
      subst (λ (k : ℕ). Returned k words 0 (put 0 (words_of d) words)) (length-words_of d)
      (returned-words words (words_of d) (rw (length-words_of d) h))

  record-canonical : take 19 (put 0 (words_of d) words) ≡ words_of (document_of (put 0 (words_of d) words))
  record-canonical = rw (written_back d words, ← length-words_of d, front words (words_of d))

-- ---- a handle is given by its word

pub by_word : (f : ℕ → Call) (w : ℕ) (id : NodeId) → id ≡ id_of w
    → (d : Document) (mem scratch : List ℕ) (a : Answered) (d' : Document) (mem' scratch' : List ℕ)
    → Edits (f (word_of id)) d mem scratch a d' mem' scratch' → Edits (f w) d mem scratch a d' mem' scratch'
by_word f w id e d mem scratch a d' mem' scratch' x =
    subst (λ (c : Call). Edits c d mem scratch a d' mem' scratch') (ap f (ap word_of e ∙ word_of-id_of w)) x

-- ---- the promise

module _ (c : Call) (n : ℕ) (telling : Telling) (words mem scratch out : List ℕ) where
  pub too_short : (l : Option Document) → l ≡ lent_record words (length out) n → l ≡ None → Exported c n telling words mem scratch out 4 words mem scratch out
  too_short l e s = record {
    short = λ f. (refl, refl, refl, refl, refl);
    edits = λ t. absurd (false≢true (sym (not-lent words (length out) n l e s) ∙ t));
    document = returned-none words 19 4 (λ z. omega arith);
    canonical = λ z. absurd (omega arith);
    answer = returned-none out n 4 (λ z. omega arith);
  }

  module _ (d : Document) (l : Whole words (length out) n d) (mem' scratch' : List ℕ) where
    pub refuses : (w : Refusal) → Edits c d mem scratch (refused (number_of w)) d mem' scratch'
        → Exported c n telling words mem scratch out (number_of w) words mem' scratch' out
    refuses w e = record {
      short = λ f. absurd (true≢false (sym l.lent ∙ f));
      edits = λ t. rw (told-refused w (telling (take n out) (document_of words) mem'), ← l.is) e;
      document = returned-none words 19 (number_of w) (λ z. never-zero w z);
      canonical = λ z. never-zero w z;
      answer = returned-none out n (number_of w) (λ z. never-zero w z);
    }

    pub accepts : (vs : List ℕ) (d' : Document) → length vs ≡ n → Edits c d mem scratch (telling vs d' mem') d' mem' scratch'
        → Exported c n telling words mem scratch out 0 (put 0 (words_of d') words) mem' scratch' (put 0 vs out)
    accepts vs d' q e = record {
      short = λ f. absurd (true≢false (sym l.lent ∙ f));
      edits = λ t. rw (written_back d' words, ← q, front out vs, ← l.is) e;
      document = record-returned d' words l.words;
      canonical = λ z. record-canonical d' words;
      answer = subst (λ (k : ℕ). Returned k out 0 (put 0 vs out)) q (returned-words out vs (rw q l.enough));
    }

-- ---- each kind of answer

module _ (c : Call) (words mem scratch out : List ℕ) (d : Document) (l : Whole words (length out) 1 d) (status : ℕ) (words' mem' scratch' out' : List ℕ) where
  pub makes : (r : Result NewNode Refusal) → Edits c d mem scratch (of_made r) (after_made d r) mem' scratch'
      → status ≡ status_of (made_words r) → words' ≡ given_to words (made_record r) → out' ≡ given_to out (made_words r)
      → Exported c 1 as_made words mem scratch out status words' mem' scratch' out'
  makes (Ok m) e s w o = rw (s, w, o) (accepts c 1 as_made words mem scratch out d l mem' scratch' (word_of m.id ∷ []) m.document refl e)
  makes (Err why) e s w o = rw (s, w, o) (refuses c 1 as_made words mem scratch out d l mem' scratch' why e)

  pub finds : (r : Result (Document × Bool) Refusal) → Edits c d mem scratch (of_found r) (after_found d r) mem' scratch'
      → status ≡ status_of (found_words r) → words' ≡ given_to words (found_record r) → out' ≡ given_to out (found_words r)
      → Exported c 1 as_truth words mem scratch out status words' mem' scratch' out'
  finds (Ok (d', t)) e s w o =
      rw (s, w, o) (accepts c 1 as_truth words mem scratch out d l mem' scratch' (truth_word t ∷ []) d' refl
      (subst (λ (u : Bool). Edits c d mem scratch (truth u) d' mem' scratch') (sym (truth-back t)) e))
  finds (Err why) e s w o = rw (s, w, o) (refuses c 1 as_truth words mem scratch out d l mem' scratch' why e)

module _ (c : Call) (words mem scratch : List ℕ) (d : Document) (l : Whole words 0 0 d) (status : ℕ) (words' mem' scratch' : List ℕ) where
  accepts-done : (telling : Telling) (d' : Document) → Edits c d mem scratch (telling [] d' mem') d' mem' scratch'
      → Exported c 0 telling words mem scratch [] 0 (put 0 (words_of d') words) mem' scratch' []
  accepts-done telling d' e =
      subst (λ (o : List ℕ). Exported c 0 telling words mem scratch [] 0 (put 0 (words_of d') words) mem' scratch' o) (put-nil [] 0 [])
      (accepts c 0 telling words mem scratch [] d l mem' scratch' [] d' refl e)

  pub does : (r : Result Document Refusal) → Edits c d mem scratch (of_done r) (after_done d r) mem' scratch'
      → status ≡ status_of (done_record r) → words' ≡ given_to words (done_record r)
      → Exported c 0 as_done words mem scratch [] status words' mem' scratch' []
  does (Ok d') e s w = rw (s, w) (accepts-done as_done d' e)
  does (Err why) e s w = rw (s, w) (refuses c 0 as_done words mem scratch [] d l mem' scratch' why e)

  pub orders : (r : Result Document Refusal) → Edits c d mem scratch (of_order mem' r) (after_done d r) mem' scratch'
      → status ≡ status_of (done_record r) → words' ≡ given_to words (done_record r)
      → Exported c 0 as_order words mem scratch [] status words' mem' scratch' []
  orders (Ok d') e s w = rw (s, w) (accepts-done as_order d' e)
  orders (Err why) e s w = rw (s, w) (refuses c 0 as_order words mem scratch [] d l mem' scratch' why e)

-- ---- Start

module _ (words mem : List ℕ) where
  pub start-short : (l : Option Document) → l ≡ lent_record words 0 0 → l ≡ None → ExportedStart words mem 4 words mem
  start-short l e s = record {
    short = λ f. (refl, refl, refl);
    starts = λ t. absurd (false≢true (sym (not-lent words 0 0 l e s) ∙ t));
    document = returned-none words 19 4 (λ z. omega arith);
    canonical = λ z. absurd (omega arith);
  }

  -- a refusal makes no promise about the record
  any-record : (l : Limits) (w : Refusal) (d d' : Document) (mem' : List ℕ) → Starts l mem (refused (number_of w)) d mem' → Starts l mem (told (number_of w) done) d' mem'
  any-record l w d d' mem' e =
      rw (told-refused w done)
      (record { answer = e.answer; laid = λ f. absurd (true≢false f); zeroed = λ f. absurd (true≢false f); kept = e.kept; lent = e.lent; beyond = e.beyond })

  pub starts : (d : Document) → Whole words 0 0 d → (status : ℕ) (words' mem' : List ℕ) (r : Result Document Refusal)
      → Starts d.limits mem (of_start r) (started_record d.limits r) mem'
      → status ≡ status_of (done_record r) → words' ≡ given_to words (done_record r) → ExportedStart words mem status words' mem'
  starts d l status words' mem' (Ok d') e s w =
      rw (s, w)
      (record {
        short = λ f. absurd (true≢false (sym l.lent ∙ f));
        starts = λ t. rw (written_back d' words, ← l.is) e;
        document = record-returned d' words l.words;
        canonical = λ z. record-canonical d' words;
      })
  starts d l status words' mem' (Err why) e s w =
      rw (s, w)
      (record {
        short = λ f. absurd (true≢false (sym l.lent ∙ f));
        starts = λ t. rw (← l.is) (any-record d.limits why (started_record d.limits (Err why)) d mem' e);
        document = returned-none words 19 (number_of why) (λ z. never-zero why z);
        canonical = λ z. never-zero why z;
      })
