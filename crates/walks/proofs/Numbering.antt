-- Keys for a node, its namespaces and its attributes, one list behind the other.
-- Assumes nothing.
use mathlib.Core.Path.{◌≡◌, refl, sym, ap, ◌∙◌, subst}
use mathlib.Core.Bool.{true}
use mathlib.Core.List.{List, [], ◌∷◌, ◌++◌}
use Prim.Native.Nat.{ℕ, ◌+◌, ◌≤◌}
use native.Mathlib.Omega.{arith}
use lib.ListN.{length, length-append}
use Rattle.words.proofs.Parts.{length_part}
use Rattle.records.specs.Handles.{handle_index}
use Rattle.model.specs.Kinds.{Which}
use Rattle.model.specs.Doc.{Doc, range_in, list_in, list_at}
use Rattle.layout.specs.declared.Document.{Document}
use Rattle.layout.specs.Layout.{memory_ok}
use Rattle.memory.specs.Decode.{arena_in, decode}
use Rattle.layout.proofs.Sizes.{sizes}
use Rattle.memory.proofs.Shaped.{length_ids}
use Rattle.walks.specs.Order.{put_keys, Listed}
use Rattle.walks.proofs.Orders.{decode-put_keys, keys-more}
use Rattle.walks.proofs.Listing.{listed_kept}

-- the handles have keys, and the next key is behind them
pub record Numbered (d : Document) (mem : List ℕ) (key : ℕ) (l mem' : List ℕ) (next : ℕ) : Type 0 where
  pub memory : mem' ≡ put_keys d mem key l
  pub after : next ≡ key + length l

-- an arena has at most 262,144 entries
pub listed-short : (d : Document) (mem : List ℕ) (w : Which) (s : ℕ) → Listed d mem w s → length (list_in (decode d mem) w s) ≤ 262144
listed-short d mem w s h =
    let r = range_in (decode d mem) w s in
    let i = h.held.inside in
    let z = sizes d (length mem) h.held.memory in
    omega (arith, z.entries w, length_part (arena_in d w mem).ids r.start r.len (omega (arith, length_ids d mem h.held.memory w)))

module _ (d : Document) (mem : List ℕ) (ok : memory_ok d (length mem) ≡ true) (key : ℕ) where
  pub numbered-one : (word : ℕ) (mem' : List ℕ) → mem' ≡ put_keys d mem key (word ∷ []) → Numbered d mem key (word ∷ []) mem' (key + 1)
  numbered-one word mem' e = record { memory = e; after = refl }

  module _ (l mem' : List ℕ) (next s h : ℕ) (n : Numbered d mem key l mem' next) (e : s ≡ handle_index h) where
    -- lists stay listed
    pub numbered-listed : (w : Which) → Listed d mem w (handle_index h) → Listed d mem' w s
    numbered-listed w x =
        subst (λ (m : List ℕ). Listed d m w s) (sym n.memory)
        (subst (λ (i : ℕ). Listed d (put_keys d mem key l) w i) (sym e) (listed_kept d mem ok w key l (handle_index h) x))

    pub list_same : (w : Which) → list_in (decode d mem') w s ≡ list_at (decode d mem) w h
    list_same w =
        ap (λ (m : List ℕ). list_in (decode d m) w s) n.memory
        ∙ ap (λ (x : Doc). list_in x w s) (decode-put_keys d mem ok key l)
        ∙ ap (λ (i : ℕ). list_in (decode d mem) w i) e

    pub numbered_more : (w : Which) (mem'' : List ℕ) (next' : ℕ) → next' ≡ next + length (list_in (decode d mem') w s) → mem'' ≡ put_keys d mem' next (list_in (decode d mem') w s)
        → Numbered d mem key (l ++ list_at (decode d mem) w h) mem'' next'
    numbered_more w mem'' next' a b =
        let m = list_at (decode d mem) w h in
        record {
          memory =
              b ∙ ap (put_keys d mem' next) (list_same w)
              ∙ ap (λ (k : ℕ). put_keys d mem' k m) n.after
              ∙ ap (λ (x : List ℕ). put_keys d x (key + length l) m) n.memory
              ∙ keys-more d mem ok key l m;
          after =
              let q : next' ≡ next + length m = a ∙ ap (λ (x : List ℕ). next + length x) (list_same w) in
              let f = n.after in
              omega (arith, length-append l m);
        }
