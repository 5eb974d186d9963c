-- What a node shows: the tests of a kind don't see names and texts, and equal bytes and pairs show an equal node.
-- Assumes nothing.
use Rattle.std.specs.Prelude.{Option, None, Some}
use mathlib.Core.Path.{◌≡◌, refl, ap, ap₂}
use mathlib.Core.Bool.{true, false≢true}
use mathlib.Core.List.{List, [], ◌∷◌, Memᴰ}
use Prim.Native.Nat.{ℕ}
use Rattle.texts.specs.Pool.{Pool, text_at}
use Rattle.names.specs.Table.{Name, name, name_at}
use Rattle.model.specs.Kinds.{Kind, root, element, attribute, text, comment, namespace, instruction, map_kind, Which, children, attributes, namespaces, which_of, is_container, is_element, is_root, owns, attribute_name, prefix_of, replaceable, with_text, names_of, texts_of}
use Rattle.model.specs.Doc.{or_else, map_option}
use Rattle.model.specs.Rules.{has_range, slots_held}

-- ---- the tests of a kind

module _ {N T M U : Type 0} (f : N → M) (g : T → U) where
  pub which_of-map : (k : Kind N T) → which_of (map_kind f g k) ≡ which_of k
  which_of-map root = refl
  which_of-map (element n) = refl
  which_of-map (attribute n v) = refl
  which_of-map (text t) = refl
  which_of-map (comment t) = refl
  which_of-map (namespace p u) = refl
  which_of-map (instruction t d) = refl

  pub is_container-map : (k : Kind N T) → is_container (map_kind f g k) ≡ is_container k
  is_container-map root = refl
  is_container-map (element n) = refl
  is_container-map (attribute n v) = refl
  is_container-map (text t) = refl
  is_container-map (comment t) = refl
  is_container-map (namespace p u) = refl
  is_container-map (instruction t d) = refl

  pub is_element-map : (k : Kind N T) → is_element (map_kind f g k) ≡ is_element k
  is_element-map root = refl
  is_element-map (element n) = refl
  is_element-map (attribute n v) = refl
  is_element-map (text t) = refl
  is_element-map (comment t) = refl
  is_element-map (namespace p u) = refl
  is_element-map (instruction t d) = refl

  pub is_root-map : (k : Kind N T) → is_root (map_kind f g k) ≡ is_root k
  is_root-map root = refl
  is_root-map (element n) = refl
  is_root-map (attribute n v) = refl
  is_root-map (text t) = refl
  is_root-map (comment t) = refl
  is_root-map (namespace p u) = refl
  is_root-map (instruction t d) = refl

  pub attribute_name-map : (k : Kind N T) → attribute_name (map_kind f g k) ≡ map_option f (attribute_name k)
  attribute_name-map root = refl
  attribute_name-map (element n) = refl
  attribute_name-map (attribute n v) = refl
  attribute_name-map (text t) = refl
  attribute_name-map (comment t) = refl
  attribute_name-map (namespace p u) = refl
  attribute_name-map (instruction t d) = refl

  pub prefix_of-map : (k : Kind N T) → prefix_of (map_kind f g k) ≡ map_option g (prefix_of k)
  prefix_of-map root = refl
  prefix_of-map (element n) = refl
  prefix_of-map (attribute n v) = refl
  prefix_of-map (text t) = refl
  prefix_of-map (comment t) = refl
  prefix_of-map (namespace p u) = refl
  prefix_of-map (instruction t d) = refl

  pub replaceable-map : (k : Kind N T) → replaceable (map_kind f g k) ≡ map_option g (replaceable k)
  replaceable-map root = refl
  replaceable-map (element n) = refl
  replaceable-map (attribute n v) = refl
  replaceable-map (text t) = refl
  replaceable-map (comment t) = refl
  replaceable-map (namespace p u) = refl
  replaceable-map (instruction t d) = refl

  pub owns-map : (w : Which) (k : Kind N T) → owns w (map_kind f g k) ≡ owns w k
  owns-map children k = is_container-map k
  owns-map attributes k = is_element-map k
  owns-map namespaces k = is_element-map k

  pub has_range-map : (w : Which) (k : Kind N T) → has_range w (map_kind f g k) ≡ has_range w k
  has_range-map children root = refl
  has_range-map children (element n) = refl
  has_range-map children (attribute n v) = refl
  has_range-map children (text t) = refl
  has_range-map children (comment t) = refl
  has_range-map children (namespace p u) = refl
  has_range-map children (instruction t d) = refl
  has_range-map attributes k = is_element-map k
  has_range-map namespaces k = is_element-map k

module _ {N T : Type 0} where
  -- an owner of a list has that range by its kind
  pub owns-range : (w : Which) (k : Kind N T) → owns w k ≡ true → has_range w k ≡ true
  owns-range children root e = refl
  owns-range children (element n) e = refl
  owns-range children (attribute n v) e = absurd (false≢true e)
  owns-range children (text t) e = refl
  owns-range children (comment t) e = refl
  owns-range children (namespace p u) e = absurd (false≢true e)
  owns-range children (instruction t d) e = refl
  owns-range attributes k e = e
  owns-range namespaces k e = e

  -- a replaced text leaves the ranges and the names
  pub is_element-with_text : (k : Kind N T) (t : T) → is_element (with_text k t) ≡ is_element k
  is_element-with_text root t = refl
  is_element-with_text (element n) t = refl
  is_element-with_text (attribute n v) t = refl
  is_element-with_text (text s) t = refl
  is_element-with_text (comment s) t = refl
  is_element-with_text (namespace p u) t = refl
  is_element-with_text (instruction s d) t = refl

  pub has_range-with_text : (w : Which) (k : Kind N T) (t : T) → has_range w (with_text k t) ≡ has_range w k
  has_range-with_text children root t = refl
  has_range-with_text children (element n) t = refl
  has_range-with_text children (attribute n v) t = refl
  has_range-with_text children (text s) t = refl
  has_range-with_text children (comment s) t = refl
  has_range-with_text children (namespace p u) t = refl
  has_range-with_text children (instruction s d) t = refl
  has_range-with_text attributes k t = is_element-with_text k t
  has_range-with_text namespaces k t = is_element-with_text k t

  pub names_of-with_text : (k : Kind N T) (t : T) → names_of (with_text k t) ≡ names_of k
  names_of-with_text root t = refl
  names_of-with_text (element n) t = refl
  names_of-with_text (attribute n v) t = refl
  names_of-with_text (text s) t = refl
  names_of-with_text (comment s) t = refl
  names_of-with_text (namespace p u) t = refl
  names_of-with_text (instruction s d) t = refl

-- ---- the text slots of a node's fields

pub held-here : (o : Option ℕ) (l : List (Option ℕ)) (s : ℕ) → o ≡ Some s → Memᴰ s (slots_held (o ∷ l))
held-here o l s e = rw e (Memᴰ.head refl)

pub held-there : (o : Option ℕ) (l : List (Option ℕ)) (s : ℕ) → Memᴰ s (slots_held l) → Memᴰ s (slots_held (o ∷ l))
held-there None l s m = m
held-there (Some x) l s m = Memᴰ.tail m

-- ---- a node is shown by the pairs of its names and the bytes of its texts

-- the node with the names and the texts of these tables
abbrev pub shown_by : List (Option Name) → Pool → Kind ℕ (Option ℕ) → Kind Name (List ℕ)
shown_by names p k = map_kind (λ n. or_else (name [] []) (name_at names n)) (text_at p) k

module _ (names names' : List (Option Name)) (p p' : Pool) where
  text-kept : (l : List (Option ℕ)) → ((s : ℕ) → Memᴰ s (slots_held l) → text_at p' (Some s) ≡ text_at p (Some s)) → (o : Option ℕ)
      → ((s : ℕ) → o ≡ Some s → Memᴰ s (slots_held l)) → text_at p' o ≡ text_at p o
  text-kept l h None there = refl
  text-kept l h (Some s) there = h s (there s refl)

  pub texts-kept : (k : Kind ℕ (Option ℕ)) → ((n : ℕ) → Memᴰ n (names_of k) → name_at names' n ≡ name_at names n)
      → ((s : ℕ) → Memᴰ s (slots_held (texts_of k)) → text_at p' (Some s) ≡ text_at p (Some s))
      → shown_by names' p' k ≡ shown_by names p k
  texts-kept root ns ts = refl
  texts-kept (element n) ns ts = ap (λ (o : Option Name). element (or_else (name [] []) o)) (ns n (Memᴰ.head refl))
  texts-kept (attribute n v) ns ts =
      ap₂ (λ (o : Option Name) (t : List ℕ). attribute (or_else (name [] []) o) t) (ns n (Memᴰ.head refl))
      (text-kept (v ∷ []) ts v (held-here v []))
  texts-kept (text t) ns ts = ap text (text-kept (t ∷ []) ts t (held-here t []))
  texts-kept (comment t) ns ts = ap comment (text-kept (t ∷ []) ts t (held-here t []))
  texts-kept (namespace q u) ns ts =
      ap₂ namespace (text-kept (q ∷ u ∷ []) ts q (held-here q (u ∷ [])))
      (text-kept (q ∷ u ∷ []) ts u (λ s e. held-there q (u ∷ []) s (held-here u [] s e)))
  texts-kept (instruction q u) ns ts =
      ap₂ instruction (text-kept (q ∷ u ∷ []) ts q (held-here q (u ∷ [])))
      (text-kept (q ∷ u ∷ []) ts u (λ s e. held-there q (u ∷ []) s (held-here u [] s e)))
