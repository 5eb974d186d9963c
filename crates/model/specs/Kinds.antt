-- What a node is. One type serves the document, where a name is a number and a text is a text slot or none, and the plain tree, where
-- a name is its (namespace, local) pair and a text is its bytes.
use Rattle.std.specs.Prelude.{Bool, true, false, List, [], ◌∷◌, ℕ, Option, None, Some}

-- `NodeData` of the source, without its ranges; N are names, T texts
pub data Kind (N T : Type 0) : Type 0 where
  root : Kind N T
  element : N → Kind N T
  attribute : N → T → Kind N T
  text : T → Kind N T
  comment : T → Kind N T
  namespace : T → T → Kind N T
  instruction : T → T → Kind N T

abbrev pub map_kind : {N T M U : Type 0} → (N → M) → (T → U) → Kind N T → Kind M U
map_kind f g root = root
map_kind f g (element n) = element (f n)
map_kind f g (attribute n v) = attribute (f n) (g v)
map_kind f g (text t) = text (g t)
map_kind f g (comment t) = comment (g t)
map_kind f g (namespace p u) = namespace (g p) (g u)
map_kind f g (instruction t d) = instruction (g t) (g d)

-- The three lists of a node, and the three arenas that hold them (`Arena` of the source).
pub data Which : Type 0 where
  children attributes namespaces : Which

abbrev pub same_which : Which → Which → Bool
same_which children children = true
same_which children attributes = false
same_which children namespaces = false
same_which attributes children = false
same_which attributes attributes = true
same_which attributes namespaces = false
same_which namespaces children = false
same_which namespaces attributes = false
same_which namespaces namespaces = true

module _ {N T : Type 0} where
  -- the list of its parent that a node of this kind stands in
  abbrev pub which_of : Kind N T → Which
  which_of root = children
  which_of (element n) = children
  which_of (attribute n v) = attributes
  which_of (text t) = children
  which_of (comment t) = children
  which_of (namespace p u) = namespaces
  which_of (instruction t d) = children

  -- `container`: the Root and elements hold children
  abbrev pub is_container : Kind N T → Bool
  is_container root = true
  is_container (element n) = true
  is_container (attribute n v) = false
  is_container (text t) = false
  is_container (comment t) = false
  is_container (namespace p u) = false
  is_container (instruction t d) = false

  abbrev pub is_element : Kind N T → Bool
  is_element root = false
  is_element (element n) = true
  is_element (attribute n v) = false
  is_element (text t) = false
  is_element (comment t) = false
  is_element (namespace p u) = false
  is_element (instruction t d) = false

  abbrev pub is_root : Kind N T → Bool
  is_root root = true
  is_root (element n) = false
  is_root (attribute n v) = false
  is_root (text t) = false
  is_root (comment t) = false
  is_root (namespace p u) = false
  is_root (instruction t d) = false

  -- which kinds may own a list: "Attributes and namespaces have a live element as parent. Others have a live Root or element"
  abbrev pub owns : Which → Kind N T → Bool
  owns children k = is_container k
  owns attributes k = is_element k
  owns namespaces k = is_element k

  -- `child_kind`: what keeps a node from being moved or detached, as 01's number, or 0
  abbrev pub child_kind : Kind N T → ℕ
  child_kind root = 11
  child_kind (element n) = 0
  child_kind (attribute n v) = 9
  child_kind (text t) = 0
  child_kind (comment t) = 0
  child_kind (namespace p u) = 9
  child_kind (instruction t d) = 0

  -- the content of a text node
  abbrev pub text_of : Kind N T → Option T
  text_of root = None
  text_of (element n) = None
  text_of (attribute n v) = None
  text_of (text t) = Some t
  text_of (comment t) = None
  text_of (namespace p u) = None
  text_of (instruction t d) = None

  -- the name of an attribute, and the prefix of a namespace node
  abbrev pub attribute_name : Kind N T → Option N
  attribute_name root = None
  attribute_name (element n) = None
  attribute_name (attribute n v) = Some n
  attribute_name (text t) = None
  attribute_name (comment t) = None
  attribute_name (namespace p u) = None
  attribute_name (instruction t d) = None

  abbrev pub prefix_of : Kind N T → Option T
  prefix_of root = None
  prefix_of (element n) = None
  prefix_of (attribute n v) = None
  prefix_of (text t) = None
  prefix_of (comment t) = None
  prefix_of (namespace p u) = Some p
  prefix_of (instruction t d) = None

  -- the names and the texts of a node, in the order in which the texts are released
  abbrev pub names_of : Kind N T → List N
  names_of root = []
  names_of (element n) = n ∷ []
  names_of (attribute n v) = n ∷ []
  names_of (text t) = []
  names_of (comment t) = []
  names_of (namespace p u) = []
  names_of (instruction t d) = []

  abbrev pub texts_of : Kind N T → List T
  texts_of root = []
  texts_of (element n) = []
  texts_of (attribute n v) = v ∷ []
  texts_of (text t) = t ∷ []
  texts_of (comment t) = t ∷ []
  texts_of (namespace p u) = p ∷ u ∷ []
  texts_of (instruction t d) = t ∷ d ∷ []

  -- the text that `set_text`, and a second `set_attribute` or `declare_namespace`, replaces: the content, the value, the URI
  abbrev pub replaceable : Kind N T → Option T
  replaceable root = None
  replaceable (element n) = None
  replaceable (attribute n v) = Some v
  replaceable (text t) = Some t
  replaceable (comment t) = None
  replaceable (namespace p u) = Some u
  replaceable (instruction t d) = None

  abbrev pub with_text : Kind N T → T → Kind N T
  with_text root t = root
  with_text (element n) t = element n
  with_text (attribute n v) t = attribute n t
  with_text (text s) t = text t
  with_text (comment s) t = comment s
  with_text (namespace p u) t = namespace p t
  with_text (instruction s d) t = instruction s d
