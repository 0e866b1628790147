-- Worked examples of texts of extension fields, computed by the definitions.
use Rattle.std.specs.Prelude.{◌≡◌, true, false, List, [], ◌∷◌, codes, refl}
use Rattle.std.specs.List.{flat_map}
use Rattle.std.specs.Prelude.{ℕ, replicate}
use Rattle.dsn_text.specs.Extension.{are_extension_lines, lines_ended_by_lf, is_extension_line, is_extension_text}

none : is_extension_text [] ≡ true
unfolding are_extension_lines
none = refl

queue_id : is_extension_text (codes "X-Postfix-Queue-ID: 4F9D195432C\n") ≡ true
unfolding are_extension_lines is_extension_line
queue_id = refl

two : is_extension_text (codes "X-A: 1\nX-B: : 2 \n") ≡ true
unfolding are_extension_lines is_extension_line
two = refl

two_lines : lines_ended_by_lf (codes "X-A: 1\nX-B: : 2 \n") ≡ codes "X-A: 1" ∷ codes "X-B: : 2 " ∷ []
unfolding lines_ended_by_lf
two_lines = refl

eight : is_extension_text (flat_map (λ (line : List ℕ). line) (replicate 8 (codes "X-A: 1\n"))) ≡ true
unfolding are_extension_lines is_extension_line
eight = refl

nine : is_extension_text (flat_map (λ (line : List ℕ). line) (replicate 9 (codes "X-A: 1\n"))) ≡ false
unfolding are_extension_lines is_extension_line
nine = refl

no_line_feed : is_extension_text (codes "X-A: 1") ≡ false
unfolding are_extension_lines is_extension_line
no_line_feed = refl

more_after_the_last : is_extension_text (codes "X-A: 1\nX-B: 2") ≡ false
unfolding are_extension_lines is_extension_line
more_after_the_last = refl

carriage_return : is_extension_text (codes "X-A: 1\r\n") ≡ false
unfolding are_extension_lines is_extension_line
carriage_return = refl

empty_line : is_extension_text (codes "X-A: 1\n\n") ≡ false
unfolding are_extension_lines is_extension_line
empty_line = refl

no_x : is_extension_line (codes "Queue-ID: 1") ≡ false
unfolding is_extension_line
no_x = refl

small_x : is_extension_line (codes "x-Queue-ID: 1") ≡ false
unfolding is_extension_line
small_x = refl

x_alone : is_extension_line (codes "X-: 1") ≡ false
unfolding is_extension_line
x_alone = refl

colon_in_a_name : is_extension_line (codes "X-A:B: 1") ≡ false
unfolding is_extension_line
colon_in_a_name = refl

space_in_a_name : is_extension_line (codes "X-A : 1") ≡ false
unfolding is_extension_line
space_in_a_name = refl

no_space : is_extension_line (codes "X-A:1") ≡ false
unfolding is_extension_line
no_space = refl

no_value : is_extension_line (codes "X-A: ") ≡ false
unfolding is_extension_line
no_value = refl

no_colon : is_extension_line (codes "X-A 1") ≡ false
unfolding is_extension_line
no_colon = refl
