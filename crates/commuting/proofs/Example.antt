-- The example's premises are met: each event is what its call promises.
-- Assumes nothing.
use mathlib.Core.Path.{◌≡◌, refl, sym, ap, ◌∙◌, subst}
use mathlib.Core.Logic.{inl}
use mathlib.Core.Bool.{Bool, true, true≢false}
use mathlib.Core.List.{List, []}
use Prim.Native.Nat.{ℕ}
use native.Mathlib.Omega.{arith}
use lib.ListN.{length, replicate, drop, drop_of_length-le}
use Rattle.model.specs.Doc.{limits_ok}
use Rattle.model.specs.Calls.{document-order, done, Out, step}
use Rattle.model.specs.Tree.{Tree, seed}
use Rattle.layout.specs.declared.Limits as given
use Rattle.layout.specs.Layout.{limits_of, document_words, scratch_words, memory_ok, buffers_ok}
use Rattle.memory.specs.Decode.{decode}
use Rattle.editing.specs.Contract.{outcome, scratch_after, Edits}
use Rattle.tree.specs.Contract.{startable, Starts}
use Rattle.tree.specs.Claim.{Event, Promised, PromisedBy, Called, tree_after, tree_end}
use Rattle.tree.proofs.Startable.{start-done}
use Rattle.tree.proofs.Theorem.{Stands, sound, one-event, fresh-stands, stands_after}
use Rattle.commuting.specs.Moves.{Move, call_of}
use Rattle.commuting.specs.EitherOrder.{InOrder, Renewal}
use Rattle.commuting.specs.Example.{limits, counted, handles, zone_made, inner_made, register, zone_move, inner_move, zone_earlier, inner_later, inner_earlier, zone_later, Example}
use Rattle.commuting.proofs.Events.{went}
use Rattle.commuting.proofs.Theorem.{either_order}
use Rattle.commuting.proofs.Computed.{begun, zone_first_renewed, inner_first_renewed, Steps, computed}

-- ---- from steps to promises

abbrev Standing : Event → Tree → Type 0
Standing e t = Stands handles e.document e.memory t

module _ {t : Tree} (b e : Event) (S : Standing b t) (s : Steps b e) where
  abbrev mem : List ℕ
  mem = b.memory

  fits : buffers_ok b.document (length mem) (length e.scratch) ≡ true
  unfolding buffers_ok memory_ok limits_ok document_words scratch_words
  fits = rw (s.limits.0, s.words.0, s.scratch.0)

  past_end : (m : List ℕ) → length m ≡ 80 → drop (document_words (limits_of b.document.limits)) m ≡ []
  unfolding document_words
  past_end m q = ap (λ (l : given.Limits). drop (document_words (limits_of l)) m) s.limits.0 ∙ drop_of_length-le m {i = 80} (omega arith)

  -- tests 4 and 5 are passed
  went_on : outcome e.call b.document mem (length e.scratch) ≡ step e.call (decode b.document mem)
  unfolding outcome
  went_on = rw (fits, sound handles S)

  edited : Edits e.call b.document mem e.scratch e.answer e.document e.memory e.scratch_after
  unfolding scratch_after
  edited = record {
    answer = s.answer ∙ sym (ap (λ (x : Out). x.answer) went_on);
    after = λ g. s.document ∙ sym (ap (λ (x : Out). x.doc) went_on);
    kept = λ g. absurd (true≢false (sym g ∙ s.accepted));
    limits = s.limits.1 ∙ sym s.limits.0;
    lent = s.words.1 ∙ sym s.words.0;
    beyond = past_end e.memory s.words.1 ∙ sym (past_end mem s.words.0);
    cleared = s.scratch.1 ∙ ap (λ (n : ℕ). replicate n 0) (sym s.scratch.0) ∙ sym (rw fits);
  }

  promised : Promised b.document mem e
  promised = subst (λ (q : Bool). PromisedBy q b.document mem e) (sym s.editing) edited

started : Starts limits (replicate 80 7) done (counted 1 0 0 true) (replicate 80 0)
unfolding startable limits_ok document_words
started = start-done limits (replicate 80 7) refl

fresh : Standing begun seed
fresh = fresh-stands limits (replicate 80 7) (replicate 80 0) (counted 1 0 0 true) started handles refl

zone-stands : Standing zone_made (tree_after handles zone_made seed)
zone-stands =
    (one-event handles begun.document begun.memory seed zone_made fresh (promised begun zone_made fresh computed.zone-made) computed.told.0).0

called : Called (counted 1 0 0 true) (replicate 80 0) register
called = (promised begun zone_made fresh computed.zone-made, (promised zone_made inner_made zone-stands computed.inner-made, tt))

built : Standing inner_made (tree_end handles register seed)
built = stands_after limits (replicate 80 7) (replicate 80 0) (counted 1 0 0 true) started register called handles refl computed.told

-- ---- an order

module _ (m n : Move) (e f : Event) (p : e.call ≡ call_of m) (q : f.call ≡ call_of n) (s : Steps inner_made e) (u : Steps e f) where
  between : Standing e (tree_after handles e (tree_end handles register seed))
  between = (went handles built m e (promised inner_made e built s) p s.accepted).stands

  abbrev in-order : InOrder inner_made.document inner_made.memory m n
  in-order =
      record {
        earlier = e;
        later = f;
        called = (promised inner_made e built s, (promised e f between u, tt));
        moves = (p, q);
        accepted = (s.accepted, u.accepted);
      }

  abbrev renewal : (r : Event) → r.call ≡ document-order → Steps f r → Renewal f
  renewal r c v =
      record {
        event = r;
        promised = promised f r (went handles between n f (promised e f between u) q u.accepted).stands v;
        renews = inl c;
        accepted = v.accepted;
      }

abbrev zone-first : InOrder inner_made.document inner_made.memory zone_move inner_move
zone-first = in-order zone_move inner_move zone_earlier inner_later refl refl computed.zone-earlier computed.inner-later

abbrev inner-first : InOrder inner_made.document inner_made.memory inner_move zone_move
inner-first = in-order inner_move zone_move inner_earlier zone_later refl refl computed.inner-earlier computed.zone-later

pub example : Example
example =
    record {
      started = started;
      called = called;
      told = computed.told;
      are_independent = computed.independently;
      zone_first = zone-first;
      inner_first = inner-first;
      later = (refl, refl);
      renewals = (
        renewal zone_move inner_move zone_earlier inner_later refl refl computed.zone-earlier computed.inner-later zone_first_renewed refl computed.zone-first,
        renewal inner_move zone_move inner_earlier zone_later refl refl computed.inner-earlier computed.zone-later inner_first_renewed refl computed.inner-first,
      );
      renewed_keys = (refl, refl);
      alike =
          either_order limits (replicate 80 7) (replicate 80 0) (counted 1 0 0 true) started register called handles refl computed.told
          zone_move inner_move computed.independently zone-first inner-first;
      ranges = computed.ranges;
    }
