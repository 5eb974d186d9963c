-- The rules together: the order in which they are tested, and that all but rule 8 read neither texts nor names where the lengths add up.
-- Assumes nothing.
use Rattle.std.specs.Prelude.{Option, None, Some}
use mathlib.Core.Path.{◌≡◌, refl, sym, ap, ap₂, ◌∙◌}
use mathlib.Core.Bool.{Bool, true, false, ◌&&◌, and-false}
use mathlib.Core.List.{List}
use Prim.Native.Nat.{ℕ, zero, suc}
use lib.ListN.{length}
use Rattle.words.proofs.Tests.{and_left, and_right}
use Rattle.records.specs.Handles.{handle_index}
use Rattle.words.proofs.Lists.{all_below-same}
use Rattle.model.specs.Doc.{live_slot, parent_in}
use Rattle.model.specs.RulesTest.{implies, all_option, all_slots, all_live, counts_and_fields_hold, free_list_holds, parent_holds, parents_hold, ends_within, entries_hold, arena_holds, blocks_hold, parents_end_holds, one_root_element_holds, texts_hold, eight_hold, rules_hold}
use Rattle.layout.specs.declared.Document.{Document}
use Rattle.layout.specs.Layout.{memory_ok}
use Rattle.memory.specs.Decode.{lengths_add, decode}
use Rattle.entries.specs.Nodes.{decode_nodes}
use Rattle.structure.specs.Tests.{only_root, fields_fit, each_holds}
use Rattle.structure.proofs.Lists.{both_ways, ended-first, ended-second, decided-third}
use Rattle.structure.proofs.CountsAndFields.{fields-decide}
use Rattle.structure.proofs.TextsShown.{fields-decoded}

-- ---- the order of the tests

regrouped : (f o r p e b n q t : Bool) → ((f && r) && (((o && p) && b) && t) && ((e && q) && n)) ≡ ((((((((f && o) && r) && p) && e) && b) && n) && q) && t)
regrouped f o r p e b n q t =
    both_ways ((f && r) && (((o && p) && b) && t) && ((e && q) && n)) ((((((((f && o) && r) && p) && e) && b) && n) && q) && t) there back
  where
    there : ((f && r) && (((o && p) && b) && t) && ((e && q) && n)) ≡ true → ((((((((f && o) && r) && p) && e) && b) && n) && q) && t) ≡ true
    there h =
        let hf : f ≡ true = search (and_left, and_right) depth 9 in
        let ho : o ≡ true = search (and_left, and_right) depth 9 in
        let hr : r ≡ true = search (and_left, and_right) depth 9 in
        let hp : p ≡ true = search (and_left, and_right) depth 9 in
        let he : e ≡ true = search (and_left, and_right) depth 9 in
        let hb : b ≡ true = search (and_left, and_right) depth 9 in
        let hn : n ≡ true = search (and_left, and_right) depth 9 in
        let hq : q ≡ true = search (and_left, and_right) depth 9 in
        let ht : t ≡ true = search (and_left, and_right) depth 9 in
        rw (hf, ho, hr, hp, he, hb, hn, hq, ht)

    back : ((((((((f && o) && r) && p) && e) && b) && n) && q) && t) ≡ true → ((f && r) && (((o && p) && b) && t) && ((e && q) && n)) ≡ true
    back h =
        let hf : f ≡ true = search (and_left, and_right) depth 9 in
        let ho : o ≡ true = search (and_left, and_right) depth 9 in
        let hr : r ≡ true = search (and_left, and_right) depth 9 in
        let hp : p ≡ true = search (and_left, and_right) depth 9 in
        let he : e ≡ true = search (and_left, and_right) depth 9 in
        let hb : b ≡ true = search (and_left, and_right) depth 9 in
        let hn : n ≡ true = search (and_left, and_right) depth 9 in
        let hq : q ≡ true = search (and_left, and_right) depth 9 in
        let ht : t ≡ true = search (and_left, and_right) depth 9 in
        rw (hf, ho, hr, hp, he, hb, hn, hq, ht)

module _ (d : Document) (mem : List ℕ) where
  each-parents : each_holds d mem ≡ true → parents_hold (decode_nodes d mem) ≡ true
  unfolding each_holds
  each-parents h = search (and_left, and_right)

  each-blocks : each_holds d mem ≡ true → blocks_hold (decode_nodes d mem) ≡ true
  unfolding each_holds
  each-blocks h = search (and_left, and_right)

  each-root : each_holds d mem ≡ true → only_root (decode_nodes d mem) ≡ true
  unfolding each_holds
  each-root h = search (and_left, and_right)

-- ---- with texts and names

module _ (d : Document) (mem : List ℕ) (ok : memory_ok d (length mem) ≡ true) where
  free-decoded : free_list_holds (decode_nodes d mem) ≡ free_list_holds (decode d mem)
  unfolding free_list_holds all_slots
  free-decoded = refl

  parent-decoded : (i : ℕ) (o : Option ℕ) → parent_holds (decode_nodes d mem) i o ≡ parent_holds (decode d mem) i o
  parent-decoded i None = refl
  parent-decoded i (Some p) = refl

  parents-decoded : parents_hold (decode_nodes d mem) ≡ parents_hold (decode d mem)
  unfolding parents_hold all_live
  parents-decoded =
      all_below-same (λ i. implies (live_slot (decode_nodes d mem) i) (parent_holds (decode_nodes d mem) i (parent_in (decode_nodes d mem) i)))
      (λ i. implies (live_slot (decode d mem) i) (parent_holds (decode d mem) i (parent_in (decode d mem) i))) (length (decode d mem).gens)
      (λ i b. ap (implies (live_slot (decode d mem) i)) (parent-decoded i (parent_in (decode d mem) i)))

  entries-decoded : entries_hold (decode_nodes d mem) ≡ entries_hold (decode d mem)
  unfolding entries_hold all_live
  entries-decoded = refl

  blocks-decoded : blocks_hold (decode_nodes d mem) ≡ blocks_hold (decode d mem)
  unfolding blocks_hold arena_holds all_slots
  blocks-decoded = refl

  end-decoded : (f i : ℕ) → ends_within f (decode_nodes d mem) i ≡ ends_within f (decode d mem) i
  end-decoded zero i = refl
  end-decoded (suc f) i = go (parent_in (decode d mem) i) (end-decoded f)
    where
      go : (o : Option ℕ) → ((j : ℕ) → ends_within f (decode_nodes d mem) j ≡ ends_within f (decode d mem) j)
          → all_option (λ p. ends_within f (decode_nodes d mem) (handle_index p)) o ≡ all_option (λ p. ends_within f (decode d mem) (handle_index p)) o
      go None ih = refl
      go (Some p) ih = ih (handle_index p)

  ends-decoded : parents_end_holds (decode_nodes d mem) ≡ parents_end_holds (decode d mem)
  unfolding parents_end_holds all_live
  ends-decoded =
      let n = length (decode d mem).gens in
      all_below-same (λ i. implies (live_slot (decode_nodes d mem) i) (ends_within n (decode_nodes d mem) i))
      (λ i. implies (live_slot (decode d mem) i) (ends_within n (decode d mem) i)) n
      (λ i b. ap (implies (live_slot (decode d mem) i)) (end-decoded n i))

  root-decoded : one_root_element_holds (decode_nodes d mem) ≡ one_root_element_holds (decode d mem)
  unfolding one_root_element_holds
  root-decoded = refl

  fields-decoded-there : lengths_add d mem ≡ true → (fields_fit d mem && only_root (decode_nodes d mem)) ≡ counts_and_fields_hold (decode d mem)
  fields-decoded-there h = fields-decide d mem ∙ sym (fields-decoded d mem ok h)

  -- where the lengths do not add up, rule 8 is broken
  no-lengths : lengths_add d mem ≡ false → texts_hold (decode d mem) ≡ false
  unfolding texts_hold
  no-lengths h = rw h

  abbrev links : Bool
  links = entries_hold (decode_nodes d mem) && one_root_element_holds (decode_nodes d mem) && parents_end_holds (decode_nodes d mem)

  abbrev each : Bool
  each = only_root (decode_nodes d mem) && parents_hold (decode_nodes d mem) && blocks_hold (decode_nodes d mem)

  abbrev others : Bool
  others =
      counts_and_fields_hold (decode d mem) && free_list_holds (decode d mem) && parents_hold (decode d mem) && entries_hold (decode d mem)
      && blocks_hold (decode d mem) && parents_end_holds (decode d mem) && one_root_element_holds (decode d mem)

  rules-are : ((fields_fit d mem && free_list_holds (decode_nodes d mem)) && each_holds d mem && links) ≡ rules_hold (decode d mem)
  unfolding each_holds rules_hold eight_hold
  rules-are = go (lengths_add d mem) refl
    where
      broken : (a b c : Bool) → (a && (b && false) && c) ≡ false
      broken true true c = refl
      broken true false c = refl
      broken false b c = refl

      go : (a : Bool) → lengths_add d mem ≡ a → ((fields_fit d mem && free_list_holds (decode_nodes d mem)) && (each && texts_hold (decode d mem)) && links) ≡ (others && texts_hold (decode d mem))
      go true h =
          regrouped (fields_fit d mem) (only_root (decode_nodes d mem)) (free_list_holds (decode_nodes d mem)) (parents_hold (decode_nodes d mem)) (entries_hold (decode_nodes d mem)) (blocks_hold (decode_nodes d mem))
          (parents_end_holds (decode_nodes d mem)) (one_root_element_holds (decode_nodes d mem)) (texts_hold (decode d mem))
          ∙ ap (λ (t : Bool). t && texts_hold (decode d mem))
          (ap₂ ◌&&◌
          (ap₂ ◌&&◌ (ap₂ ◌&&◌ (ap₂ ◌&&◌ (ap₂ ◌&&◌ (ap₂ ◌&&◌ (fields-decoded-there h) free-decoded) parents-decoded) entries-decoded) blocks-decoded) ends-decoded)
          root-decoded)
      go false h =
          ap (λ (t : Bool). (fields_fit d mem && free_list_holds (decode_nodes d mem)) && (each && t) && links) (no-lengths h)
          ∙ broken (fields_fit d mem && free_list_holds (decode_nodes d mem)) each links
          ∙ sym (ap (λ (t : Bool). others && t) (no-lengths h) ∙ and-false others)

  module _ (slots : Bool) (e : slots ≡ (fields_fit d mem && free_list_holds (decode_nodes d mem))) where
    pub slots-broken : slots ≡ false → false ≡ rules_hold (decode d mem)
    slots-broken q = ended-first (fields_fit d mem && free_list_holds (decode_nodes d mem)) (each_holds d mem) links slots e q ∙ rules-are

    module _ (q : slots ≡ true) where
      pub fields-there : fields_fit d mem ≡ true
      fields-there = and_left (fields_fit d mem) (free_list_holds (decode_nodes d mem)) (sym e ∙ q)

      module _ (turns : Bool) (f : turns ≡ each_holds d mem) where
        pub each-broken : turns ≡ false → false ≡ rules_hold (decode d mem)
        each-broken p = ended-second (fields_fit d mem && free_list_holds (decode_nodes d mem)) (each_holds d mem) links slots turns true e q f p ∙ rules-are

        pub links-decide : turns ≡ true → (r : Bool) → r ≡ (entries_hold (decode_nodes d mem) && one_root_element_holds (decode_nodes d mem) && parents_end_holds (decode_nodes d mem)) → r ≡ rules_hold (decode d mem)
        links-decide p r g = decided-third (fields_fit d mem && free_list_holds (decode_nodes d mem)) (each_holds d mem) links slots turns r e q f p g ∙ rules-are

        -- what the links are followed by
        module _ (p : turns ≡ true) where
          held : each_holds d mem ≡ true
          held = sym f ∙ p

          pub parents-there : parents_hold (decode_nodes d mem) ≡ true
          parents-there = each-parents d mem held

          pub blocks-there : blocks_hold (decode_nodes d mem) ≡ true
          blocks-there = each-blocks d mem held

          pub fields-held : counts_and_fields_hold (decode_nodes d mem) ≡ true
          fields-held = sym (fields-decide d mem) ∙ ap₂ ◌&&◌ fields-there (each-root d mem held)
