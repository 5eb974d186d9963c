-- A replaced text, over plain values: the parent's kind, the length of the old text, Full.
-- Assumes nothing.
use Rattle.std.specs.Prelude.{Option, None, Some}
use mathlib.Core.Path.{◌≡◌, refl, sym, ap, ◌∙◌}
use mathlib.Core.Bool.{Bool, true, cond, false≢true}
use mathlib.Core.List.{List, [], ◌∷◌}
use Prim.Native.Nat.{ℕ, ◌≤◌, ◌<◌}
use native.Mathlib.Omega.{arith}
use native.Mathlib.Decide.{dec_lt}
use lib.ListN.{length, get_or-eq_default}
use Rattle.words.specs.declared.ends.Place.{Place}
use Rattle.words.specs.Ends.{length_of}
use Rattle.words.proofs.Tests.{and_left}
use Rattle.records.specs.Handles.{word_of, handle_index}
use Rattle.records.specs.declared.NodeId.{NodeId}
use Rattle.words.specs.declared.TextSlot.{TextSlot}
use Rattle.records.specs.declared.Node.{Node}
use Rattle.texts.specs.Pool.{Pool, text_at}
use Rattle.texts.specs.Words.{pool_of, place_shown}
use Rattle.texts.specs.declared.TextLimits.{TextLimits}
use Rattle.texts.specs.declared.TextCounts.{TextCounts}
use Rattle.texts.proofs.Places.{shown-nowhere}
use Rattle.texts.proofs.Words.{pool-slots, shown-place, text-length, text-ends}
use Rattle.model.specs.Kinds.{Kind, is_root, replaceable}
use Rattle.model.specs.Doc as doc
use Rattle.model.specs.Doc.{Doc, resolves, live_slot, kind_at, node_at, parent_at, pair_at, view_at, any_option, or_else}
use Rattle.model.specs.Rules.{Rules}
use Rattle.model.specs.Arguments.{not_utf8}
use Rattle.model.specs.Checks.{a_text, text_under, check_set_text}
use Rattle.model.specs.Calls.{full_unless, under_root, replacement_fits, replaceable_at}
use Rattle.layout.specs.declared.Document.{Document}
use Rattle.memory.specs.Decode.{slot_of, kind_of, handle_of, text_limits, text_counts, texts_part, resolved_in, decode}
use Rattle.memory.specs.Undamaged.{Undamaged}
use Rattle.plans.proofs.Appended.{live-accepted, live-behind}
use Rattle.lookup.proofs.Viewed.{root_seen, kind_at-found, resolves-stale}
use Rattle.room.proofs.Texts.{counted, pool-same}

-- ---- the parent

root-view : (D : Doc) (h : ℕ) → resolves D h ≡ true → any_option is_root (view_at D h) ≡ is_root (kind_at D h)
root-view D h e =
    ap (λ (t : Bool). any_option is_root (cond t (Some (node_at D h)) None)) e ∙ root_seen (pair_at D) (doc.bytes_at D) (kind_at D h)

module _ (D : Doc) (h : ℕ) (w : ℕ) (ew : w ≡ h) (r : Option NodeId) (e : handle_of r ≡ parent_at D w) where
  pub parent-root : Rules D → resolves D h ≡ true → (p : NodeId) → r ≡ Some p → (t : Bool) → t ≡ any_option is_root (view_at D (word_of p)) → t ≡ under_root D h
  parent-root rules live p q t k =
      let up : parent_at D h ≡ Some (word_of p) = ap (parent_at D) (sym ew) ∙ sym e ∙ ap handle_of q in
      let there : resolves D (word_of p) ≡ true = (rules.parents.owner (handle_index h) (word_of p) (and_left (live_slot D (handle_index h)) _ live) up).0 in
      k ∙ root-view D (word_of p) there ∙ sym (ap (any_option (λ x. is_root (kind_at D x))) up)

-- ---- the checks were passed: the handle resolves

module _ (D : Doc) (h : ℕ) where
  pub text_live : a_text (view_at D h) ≡ 0 → resolves D h ≡ true
  text_live z = live-accepted D h a_text refl z

  pub set_text_live : (s : List ℕ) (u : Bool) → check_set_text s (view_at D h) u ≡ 0 → resolves D h ≡ true
  set_text_live s u z = live-behind D h a_text refl (not_utf8 (s ∷ [])) (text_under u s) z

-- ---- the length of the old text

module _ (d : Document) (mem : List ℕ) (u : Undamaged d mem) where
  abbrev words : List ℕ
  words = texts_part d mem

  old-length : (s : ℕ) (p : Place) → p ≡ place_shown (text_limits d) (text_counts d) s (texts_part d mem)
      → (p.len ≡ length (doc.bytes_at (decode d mem) (Some s))) × (p.len ≤ d.counts.textbytes)
  old-length s p e = go (dec_lt s d.counts.texts)
    where
      same : doc.bytes_at (decode d mem) (Some s) ≡ text_at (pool_of (text_limits d) (text_counts d) words) (Some s)
      same = ap (λ (x : Pool). text_at x (Some s)) (pool-same d mem u)

      go : Dec (s < d.counts.texts) → (p.len ≡ length (doc.bytes_at (decode d mem) (Some s))) × (p.len ≤ d.counts.textbytes)
      go (yes h) =
          let q : p.len ≡ length_of words s = ap (λ (x : Place). x.len) (e ∙ shown-place (text_limits d) (text_counts d) words (counted d mem u) s h) in
          let b = text-ends (text_limits d) (text_counts d) words (counted d mem u) s h in
          (q ∙ sym (ap length same ∙ text-length (text_limits d) (text_counts d) words (counted d mem u) s h), omega arith)
      go (no h) =
          let q : p.len ≡ 0 = ap (λ (x : Place). x.len) (e ∙ shown-nowhere (text_limits d) (text_counts d) s words (omega arith)) in
          let z : text_at (pool_of (text_limits d) (text_counts d) words) (Some s) ≡ [] =
          get_or-eq_default (pool_of (text_limits d) (text_counts d) words).texts [] {n = s} (omega (arith, pool-slots (text_limits d) (text_counts d) words (counted d mem u))) in
          (q ∙ sym (ap length (same ∙ z)), omega arith)

  -- the pool lent, with its limits and counts
  pub place-told : (l : TextLimits) (k : TextCounts) (w : List ℕ) → l ≡ text_limits d → k ≡ text_counts d → w ≡ texts_part d mem → (s : ℕ) (p : Place) → p ≡ place_shown l k s w
      → (p.len ≡ length (doc.bytes_at (decode d mem) (Some s))) × (p.len ≤ d.counts.textbytes)
  place-told l k w el ek ew s p q = old-length s p (q ∙ rw (el, ek, ew))

-- ---- Full

module _ (d : Document) (mem : List ℕ) (h : NodeId) (hi : h.index < 4294967296) (hg : h.generation < 4294967296) (s : List ℕ) (v : ℕ) where
  pub replacing-found : (m : Node) → resolved_in d mem h ≡ Some m → (f : Option TextSlot) → slot_of f ≡ or_else None (replaceable (kind_of m.«data»)) → (t : Bool) → t ≡ replacement_fits (decode d mem) (slot_of f) s
      → v ≡ full_unless t → v ≡ full_unless (replacement_fits (decode d mem) (replaceable_at (decode d mem) (word_of h)) s)
  replacing-found m e f q t k w =
      let a : slot_of f ≡ replaceable_at (decode d mem) (word_of h) = q ∙ sym (ap (λ (x : Kind ℕ (Option ℕ)). or_else None (replaceable x)) (kind_at-found d mem h hi hg m e)) in
      w ∙ ap full_unless (k ∙ ap (λ (x : Option ℕ). replacement_fits (decode d mem) x s) a)

  pub replacing-stale : resolved_in d mem h ≡ None → resolves (decode d mem) (word_of h) ≡ true → v ≡ full_unless (replacement_fits (decode d mem) (replaceable_at (decode d mem) (word_of h)) s)
  replacing-stale e live = absurd (false≢true (sym (resolves-stale d mem h hi hg e) ∙ live))
