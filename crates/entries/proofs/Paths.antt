-- Rule 6: what following parents tells, and what the functions that follow them cite.
-- Assumes nothing.
use Rattle.std.proofs.lemmas.Option.{none-some, same_Some}
use Rattle.std.specs.Prelude.{Option, None, Some}
use mathlib.Core.Path.{◌≡◌, refl, sym, ap, ◌∙◌, subst}
use mathlib.Core.Bool.{Bool, true, false, not, cond, false≢true, true≢false}
use mathlib.Core.List.{List, [], ◌∷◌}
use Prim.Native.Nat.{ℕ, zero, suc, ◌+◌, ◌-◌, ◌≤◌, ◌<◌}
use native.Mathlib.Decide.{ℕ_discrete}
use native.Mathlib.Omega.{arith}
use lib.ListN.{length, get_or, set}
use lib.Seq.{get_or-set_other}
use lib.Dec.{eqb}
use borrow.Author.Tests.{eq-eqb, ne_eqb}
use Rattle.words.specs.Lists.{count_of}
use Rattle.records.specs.Handles.{handle_index, word_of}
use Rattle.model.specs.Doc.{Doc, live_slot, resolves, parent_in, map_option}
use Rattle.model.specs.Rules.{Ends}
use Rattle.model.specs.RulesTest.{all_option, all_live, ends_within, parents_hold, parents_end_holds}
use Rattle.laws.proofs.Basics.{live-below}
use Rattle.laws.proofs.Handles.{index-handle_word}
use Rattle.laws.proofs.Quantifiers.{live_at}
use Rattle.laws.proofs.RulesTestEntries.{parents-of-test}
use Rattle.laws.proofs.RulesTestPaths.{test-of-ends}
use Rattle.layout.specs.declared.Document.{Document}
use Rattle.memory.specs.Decode.{slots_made}
use Rattle.memory.proofs.Columns as columns
use Rattle.entries.specs.Nodes.{no_texts, decode_nodes, record_word}
use Rattle.entries.specs.Paths.{Known, Followed, Passed}
use Rattle.entries.proofs.Words.{current-live, parent-word, parent-narrow}

-- ---- over the document

-- where following parents from slot s is after k steps
pub record Following (D : Doc) (s at k : ℕ) : Type 0 where
  pub steps : k ≤ length D.gens
  pub ends : Ends D at → Ends D s
  pub within : ends_within (length D.gens) D s ≡ ends_within (length D.gens - k) D at
  pub live : live_slot D at ≡ true

module _ (D : Doc) (i q : ℕ) (e : map_option handle_index (parent_in D i) ≡ Some q) where
  -- the handle of the parent in slot q
  owner : (p : ℕ) × (parent_in D i ≡ Some p) × (handle_index p ≡ q)
  owner = go (parent_in D i) refl e
    where
      go : (o : Option ℕ) → parent_in D i ≡ o → map_option handle_index o ≡ Some q → (p : ℕ) × (parent_in D i ≡ Some p) × (handle_index p ≡ q)
      go None r f = absurd (none-some q f)
      go (Some p) r f = (p, r, same_Some (handle_index p) q f)

  -- a live slot's parent is live, where rule 3 holds
  pub parent_live : parents_hold D ≡ true → live_slot D i ≡ true → live_slot D q ≡ true
  parent_live h l =
      let o = owner in
      subst (λ (x : ℕ). live_slot D x ≡ true) o.2 (current-live D o.0 (resolves D o.0) refl ((parents-of-test D h).owner i o.0 l o.1).0)

  pub end_below : Ends D q → Ends D i
  end_below r =
      let o = owner in
      Ends.up o.0 o.1 (subst (Ends D) (sym o.2) r)

  pub end_above : Ends D i → Ends D q
  end_above r = go r
    where
      go : Ends D i → Ends D q
      go (Ends.top t) = absurd (none-some q (ap (map_option handle_index) (sym t) ∙ e))
      go (Ends.up p t r) = subst (Ends D) (same_Some (handle_index p) q (ap (map_option handle_index) (sym t) ∙ e)) r

  -- a step uses up one of those allowed
  step-within : (f : ℕ) → ends_within (suc f) D i ≡ ends_within f D q
  step-within f =
      let o = owner in
      ap (all_option (λ p. ends_within f D (handle_index p))) o.1 ∙ ap (ends_within f D) o.2

-- ---- following

module _ (D : Doc) (s : ℕ) where
  module _ (at k : ℕ) (F : Following D s at k) where
    pub follow-step : parents_hold D ≡ true → k < length D.gens → (q : ℕ) → map_option handle_index (parent_in D at) ≡ Some q → Following D s q (k + 1)
    follow-step h b q e = record {
      steps = omega arith;
      ends = λ r. F.ends (end_below D at q e r);
      within =
          let z : length D.gens - k ≡ suc (length D.gens - (k + 1)) = omega arith in
          F.within ∙ ap (λ (f : ℕ). ends_within f D at) z ∙ step-within D at q e (length D.gens - (k + 1));
      live = parent_live D at q e h F.live;
    }

    pub follow-ended : Ends D at → Followed D s true
    follow-ended r = record { ends = λ _. F.ends r; lost = λ e. absurd (true≢false e) }

    -- all steps are used up
    pub follow-end : length D.gens ≤ k → Followed D s false
    follow-end h =
        let z : length D.gens - k ≡ 0 = omega arith in
        record { ends = λ e. absurd (false≢true e); lost = λ _. F.within ∙ ap (λ (f : ℕ). ends_within f D at) z }

-- ---- marking

pub known-ends : (D : Doc) (marks : List ℕ) → Known D marks → (i : ℕ) → not (eqb (get_or marks i 0) 0) ≡ true → Ends D i
known-ends D marks K i e = K.ends i (λ z. false≢true (rw (eq-eqb (get_or marks i 0) 0 z) at e))

pub known_next : (D : Doc) (marks : List ℕ) (x v : ℕ) → Known D marks → Ends D x → x < length marks → Known D (set marks x v)
known_next D marks x v K r b = record { ends = λ i h. go i h (ℕ_discrete i x) }
  where
    go : (i : ℕ) → (get_or (set marks x v) i 0 ≡ 0 → ⊥) → Dec (i ≡ x) → Ends D i
    go i h (yes e) = subst (λ (k : ℕ). Ends D k) (sym e) r
    go i h (no n) = K.ends i (λ q. h (get_or-set_other marks x i v 0 n ∙ q))

-- a mark that was 0 is 0 no longer
pub fewer : (l : List ℕ) (x : ℕ) → x < length l → get_or l x 0 ≡ 0 → count_of (eqb 0) (set l x 1) < count_of (eqb 0) l
fewer [] x b e = absurd (omega arith)
fewer (y ∷ l) zero b e =
    let q : cond {A = ℕ} (eqb 0 y) 1 0 ≡ 1 = rw (eq-eqb 0 y (sym e)) in
    omega arith
fewer (y ∷ l) (suc x) b e = let h = fewer l x (omega arith) e in omega arith

-- ---- the parent's slot

pub gens-made : (d : Document) (mem : List ℕ) → length (decode_nodes d mem).gens ≡ slots_made d
gens-made d mem = columns.length-gens no_texts [] true d mem

-- a live slot was made
pub live_made : (d : Document) (mem : List ℕ) (i : ℕ) → live_slot (decode_nodes d mem) i ≡ true → i < slots_made d
live_made d mem i l = omega (arith, live-below (decode_nodes d mem) i l, gens-made d mem)

module _ (d : Document) (mem : List ℕ) (s : ℕ) (l : live_slot (decode_nodes d mem) s ≡ true) (w : ℕ) (q : w ≡ record_word d mem s 4) where
  pub parent-none : w ≡ 0 → parent_in (decode_nodes d mem) s ≡ None
  parent-none z = sym (parent-word d mem s l) ∙ rw (eq-eqb (record_word d mem s 4) 0 (sym q ∙ z))

  pub parent-some : (w ≡ 0 → ⊥) → map_option handle_index (parent_in (decode_nodes d mem) s) ≡ Some (w - 1)
  parent-some n =
      let b = (parent-narrow d mem s l).0 in
      let x = record_word d mem s 4 in
      let g = record_word d mem s 5 in
      let o : parent_in (decode_nodes d mem) s ≡ Some (word_of (record { index = x - 1; generation = g })) = sym (parent-word d mem s l) ∙ rw (ne_eqb x 0 (λ z. n (q ∙ z))) in
      let i : handle_index (word_of (record { index = x - 1; generation = g })) ≡ x - 1 = index-handle_word (x - 1) g (omega arith) in
      ap (map_option handle_index) o ∙ ap (λ (y : ℕ). Some y) (i ∙ ap (λ (y : ℕ). y - 1) (sym q))

-- ---- a slot's path is passed

module _ (D : Doc) (s : ℕ) where
  -- where its parent is known
  pub pass-known : Ends D s → (marks : List ℕ) → Known D marks → s < length marks → (v : ℕ) → Passed D s (set marks s v) true
  pass-known E marks K b v = record { known = λ _. known_next D marks s v K E b; ends = λ _ _. E; lost = λ z. absurd (true≢false z) }

-- ---- rule 6

-- the slots below i are passed
pub record Checked (D : Doc) (before marks : List ℕ) (i : ℕ) : Type 0 where
  pub at : i ≤ length D.gens
  pub same : length marks ≡ length before
  pub known : Known D marks
  pub ends : (j : ℕ) → j < i → live_slot D j ≡ true → Ends D j

module _ (D : Doc) (before : List ℕ) where
  module _ (marks : List ℕ) (i : ℕ) (C : Checked D before marks i) (after : List ℕ) (r : Bool) (P : Passed D i after r) where
    pub checked-next : i < length D.gens → length after ≡ length marks → r ≡ true → Checked D before after (i + 1)
    checked-next h l e = record {
      at = omega arith;
      same = l ∙ C.same;
      known = P.known e;
      ends = λ j b. go j b (ℕ_discrete j i);
    }
      where
        go : (j : ℕ) → j < i + 1 → Dec (j ≡ i) → live_slot D j ≡ true → Ends D j
        go j b (yes q) l = subst (λ (k : ℕ). Ends D k) (sym q) (P.ends e (ap (live_slot D) (sym q) ∙ l))
        go j b (no n) l = C.ends j (omega arith) l

    pub checked-lost : r ≡ false → false ≡ parents_end_holds D
    unfolding parents_end_holds
    checked-lost e = go (all_live D (ends_within (length D.gens) D)) refl
      where
        go : (t : Bool) → all_live D (ends_within (length D.gens) D) ≡ t → false ≡ t
        go false q = refl
        go true q =
            let o = P.lost e in
            absurd (false≢true (sym o.1 ∙ live_at D (ends_within (length D.gens) D) q i o.0))

  pub checked-all : (marks : List ℕ) (i : ℕ) → Checked D before marks i → length D.gens ≤ i → parents_hold D ≡ true → true ≡ parents_end_holds D
  checked-all marks i C h p = sym (test-of-ends D (parents-of-test D p) (λ j l. C.ends j (below j l) l))
    where
      below : (j : ℕ) → live_slot D j ≡ true → j < i
      below j l = let b = live-below D j l in omega arith
