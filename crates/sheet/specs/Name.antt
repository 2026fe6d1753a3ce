-- How wide a name stands.
use Rattle.std.specs.Prelude.{ℕ, Bool, not, ◌||◌, List, count_by, ◌==◌}
use Rattle.std.specs.Int.{is_in_range}
use Rattle.std.specs.Str.{chars}

-- U+0E31, U+0E34 to U+0E3A and U+0E47 to U+0E4E: Thai vowels and tone marks above or below the letter before.
abbrev pub is_mark : ℕ → Bool
is_mark c = c == 0xe31 || (is_in_range 0xe34 0xe3a c || is_in_range 0xe47 0xe4e c)

-- The characters of a UTF-8 text, without those marks.
abbrev pub columns : List ℕ → ℕ
columns text = count_by (λ c. not (is_mark c)) (chars text)
