-- The room that the parts of an answer are given, in bytes. No answer takes more than `answer_room`, which is `ANSWER_ROOM` in src/lib.rt.
use Rattle.std.specs.Prelude.{ℕ, ◌+◌}

-- the digits that a number of 64 bits takes at most
abbrev pub number_room : ℕ
number_room = 20

abbrev pub exact_room : ℕ
exact_room = 200

-- the line of a quick run: its word, its end, its last level
abbrev pub zoom_word_room : ℕ
zoom_word_room = 9

abbrev pub end_room : ℕ
end_room = 7

abbrev pub level_part_room : ℕ
level_part_room = 192

abbrev pub zoom_room : ℕ
zoom_room = zoom_word_room + end_room + level_part_room

abbrev pub density_room : ℕ
density_room = 40

abbrev pub positions_room : ℕ
positions_room = 80

abbrev pub bound_room : ℕ
bound_room = 8

abbrev pub start_room : ℕ
start_room = bound_room + 48

abbrev pub verdict_room : ℕ
verdict_room = start_room + 16

abbrev pub answer_room : ℕ
answer_room = exact_room + zoom_room + zoom_room + density_room + positions_room + verdict_room
