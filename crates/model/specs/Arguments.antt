-- What byte arguments may be, as 01's numbers, 0 where they pass: the checks of the character layer, with the built-in classes of code points.
use Rattle.std.specs.Prelude.{Bool, not, cond, List, ℕ, zero, suc}
use Rattle.words.specs.Lists.{all}
use Rattle.chars.specs.Classes.{class_of, is_nc_name}
use Rattle.chars.specs.Checks.{number_of, on_text, on_texts, of_text, check_prefix, check_text, check_comment, check_pi, check_namespace, check_namespace_binding, is_white_space}
use Rattle.chars.specs.Checks as text

-- a refusal where the test passes
abbrev pub refuse_if : Bool → ℕ → ℕ
refuse_if t n = cond t n 0

-- the first refusal of two
abbrev pub first : ℕ → ℕ → ℕ
first zero m = m
first (suc n) m = suc n

unfoldable pub is_utf8 : List ℕ → Bool
is_utf8 t = text.is_utf8 t

-- "1 NotUtf8: a byte argument isn't UTF-8"
abbrev pub not_utf8 : List (List ℕ) → ℕ
not_utf8 l = refuse_if (not (all is_utf8 l)) 1

unfoldable pub name_check : List ℕ → ℕ
name_check local = refuse_if (not (of_text (is_nc_name class_of) local)) 2

unfoldable pub namespace_check : List ℕ → ℕ
namespace_check uri = number_of (on_text check_namespace uri)

unfoldable pub binding_check : List ℕ → ℕ
binding_check uri = number_of (on_text check_namespace_binding uri)

unfoldable pub prefix_check : List ℕ → ℕ
prefix_check prefix = number_of (on_text (check_prefix class_of) prefix)

unfoldable pub text_check : List ℕ → ℕ
text_check t = number_of (on_text check_text t)

unfoldable pub comment_check : List ℕ → ℕ
comment_check t = number_of (on_text check_comment t)

unfoldable pub instruction_check : List ℕ → List ℕ → ℕ
instruction_check target content = number_of (on_texts (check_pi class_of) target content)

unfoldable pub space_only : List ℕ → Bool
space_only t = of_text is_white_space t

unfoldable pub is_xmlns : List ℕ → Bool
is_xmlns local = of_text text.is_xmlns local
