-- Start's contract can be met: the first words of the memory made zero are a fresh document.
-- Assumes nothing.
use mathlib.Core.Path.{◌≡◌, refl, sym, ap, ◌∙◌}
use mathlib.Core.Bool.{true, false, ◌&&◌, true≢false, false≢true}
use mathlib.Core.List.{List, ◌++◌}
use Prim.Native.Nat.{ℕ, ◌≤◌, ◌<◌}
use native.Mathlib.Omega.{arith}
use lib.ListN.{length, take, drop, replicate, length-append, length-drop, length-replicate}
use lib.Seq.{take_at, drop_at, length-take-le}
use lib.Dec.{leb}
use borrow.Author.Tests.{leb-true}
use Rattle.words.proofs.Tests.{and_left, and_right}
use Rattle.model.specs.Doc.{limits_ok}
use Rattle.model.specs.Calls.{done, refused}
use Rattle.model.specs.Refusals.{number_of}
use Rattle.model.specs.declared.Refusal.{Refusal}
use Rattle.model.specs.declared.Refusal.TheVariants.{BadBuffers}
use Rattle.layout.specs.declared.Document.{Document}
use Rattle.layout.specs.declared.Limits as given
use Rattle.layout.specs.Layout.{limits_of, document_words, memory_ok}
use Rattle.layout.specs.Record.{fresh_record}
use Rattle.layout.proofs.Sizes.{limits-fit}
use Rattle.tree.specs.Contract.{startable, Starts}
use Rattle.tree.proofs.Zeros.{decode-zeros}

module _ (l : given.Limits) (mem : List ℕ) where
  -- the memory with the document's words made zero
  abbrev pub zeroed : List ℕ
  zeroed = replicate (document_words (limits_of l)) 0 ++ drop (document_words (limits_of l)) mem

  pub start-refused : startable l (length mem) ≡ false → (d : Document) → Starts l mem (refused 4) d mem
  start-refused f d =
      record {
        answer = sym (rw f);
        laid = λ e. absurd (true≢false e);
        zeroed = λ e. absurd (true≢false e);
        kept = λ e. refl;
        lent = refl;
        beyond = refl;
      }

  pub start-done : startable l (length mem) ≡ true → Starts l mem done (fresh_record l) zeroed
  unfolding startable
  start-done f =
      let N = document_words (limits_of l) in
      let fits : limits_ok (limits_of l) ≡ true = and_left (limits_ok (limits_of l)) (leb N (length mem)) f in
      let long : N ≤ length mem = leb-true _ _ (and_right (limits_ok (limits_of l)) (leb N (length mem)) f) in
      let zeros : take N zeroed ≡ replicate N 0 = take_at (replicate N 0) (drop N mem) N (length-replicate N 0) in
      record {
        answer = sym (rw f);
        laid = λ e. (decode-zeros l fits zeroed zeros, refl);
        zeroed = λ e. zeros;
        kept = λ e. absurd (false≢true e);
        lent = length-append (replicate N 0) (drop N mem) ∙ omega (arith, length-replicate {A = ℕ} N 0, length-drop N mem);
        beyond = drop_at (replicate N 0) (drop N mem) N (length-replicate N 0);
      }

-- ---- by test 4 of the record

module _ (l : given.Limits) (mem : List ℕ) (d : Document) (laid : d ≡ fresh_record l) where
  is-startable : memory_ok d (length mem) ≡ startable l (length mem)
  unfolding startable memory_ok
  is-startable = ap (λ (x : Document). limits_ok (limits_of x.limits) && leb (document_words (limits_of x.limits)) (length mem)) laid

  pub not-started : (why : Refusal) → (memory_ok d (length mem) ≡ false) × (why ≡ BadBuffers) → (r : Document) → Starts l mem (refused (number_of why)) r mem
  not-started why f r = rw f.1 (start-refused l mem (sym is-startable ∙ f.0) r)

  module _ (y : memory_ok d (length mem) ≡ true) where
    pub limits-right : limits_ok (limits_of l) ≡ true
    unfolding startable
    limits-right = and_left (limits_ok (limits_of l)) (leb (document_words (limits_of l)) (length mem)) (sym is-startable ∙ y)

    pub words_inside : (0 < document_words (limits_of l)) × (document_words (limits_of l) ≤ length mem)
    unfolding startable document_words
    words_inside =
        let nodes : 0 < l.nodes = (limits-fit (limits_of l) limits-right).some-node in
        let long : document_words (limits_of l) ≤ length mem =
        leb-true _ _ (and_right (limits_ok (limits_of l)) (leb (document_words (limits_of l)) (length mem)) (sym is-startable ∙ y)) in
        (omega arith, long)

    pub words-cleared : (end : ℕ) → end ≡ document_words (limits_of l) → (part : List ℕ) → part ≡ replicate (length (take end mem)) 0 → Starts l mem done d (part ++ drop end mem)
    words-cleared end e part q =
        let size : length (take end mem) ≡ document_words (limits_of l) = length-take-le end mem (omega (arith, words_inside.1)) ∙ e in
        rw (q, size, e, laid) (start-done l mem (sym is-startable ∙ y))

-- ---- an example: the least limits

abbrev pub least : given.Limits
least = record { nodes = 1; children = 0; attributes = 0; namespaces = 0; texts = 0; textbytes = 0; names = 0; namebytes = 0 }

pub least-starts : Starts least (replicate 15 7) done (fresh_record least) (replicate 15 0)
unfolding startable limits_ok document_words
least-starts = start-done least (replicate 15 7) refl
