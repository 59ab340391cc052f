-- Document 01, 'State block': the places of the block and what stands there.
use Rattle.std.specs.Prelude.{List, ℕ, ◌+◌, ◌*◌, ℤ, pos, negsuc, get_or}

-- ---- limits

-- 'lent signed 64-bit numbers': 6,652 of document 01, and of document 02, change 10, 'The block gains 24 places from 6652'
abbrev pub block_length : ℕ
block_length = 6676

-- 'n is 1 to 24'
abbrev pub max_trains : ℕ
max_trains = 24

-- 'sizes 1 to 8'
abbrev pub max_choices : ℕ
max_choices = 8

-- 'm 0 to 48'
abbrev pub max_pairs : ℕ
max_pairs = 48

-- 'H 0 to 1,000,000', in points
abbrev pub max_cost : ℕ
max_cost = 1000000

-- 'L = 72,000,000,000', in parts
abbrev pub max_parts : ℕ
max_parts = 72000000000

-- ---- places

-- 'place 0 n, 1 s, 2 m, 3 c0'
abbrev pub trains_place : ℕ
trains_place = 0

abbrev pub scale_place : ℕ
scale_place = 1

abbrev pub pairs_place : ℕ
pairs_place = 2

abbrev pub constant_place : ℕ
constant_place = 3

-- 'from 4 the 24 sizes'
abbrev pub sizes_from : ℕ
sizes_from = 4

abbrev pub size_place : ℕ → ℕ
size_place i = sizes_from + i

-- 'from 28 each pair's i'
abbrev pub firsts_from : ℕ
firsts_from = 28

abbrev pub first_place : ℕ → ℕ
first_place k = firsts_from + k

-- 'from 76 each pair's j'
abbrev pub seconds_from : ℕ
seconds_from = 76

abbrev pub second_place : ℕ → ℕ
second_place k = seconds_from + k

-- choice a of train i, in the table of choices that begins at `from`: '8 × i + a'
abbrev pub choice_place : ℕ → ℕ → ℕ → ℕ
choice_place from i a = from + (max_choices * i + a)

-- 'from 124 H of choices'
abbrev pub loaded_choices_from : ℕ
loaded_choices_from = 124

abbrev pub loaded_choice_place : ℕ → ℕ → ℕ
loaded_choice_place i a = choice_place loaded_choices_from i a

-- 'from 316 T likewise'
abbrev pub held_choices_from : ℕ
held_choices_from = 316

abbrev pub held_choice_place : ℕ → ℕ → ℕ
held_choice_place i a = choice_place held_choices_from i a

-- how many places a pair has in a table: 64
abbrev pub entries_of_pair : ℕ
entries_of_pair = max_choices * max_choices

-- the choices a and c of pair k, in the table of pairs that begins at `from`: '64 × pair number + 8 × a + b'
abbrev pub entry_place : ℕ → ℕ → ℕ → ℕ → ℕ
entry_place from k a c = from + (entries_of_pair * k + (max_choices * a + c))

-- 'from 508 H of pairs'
abbrev pub loaded_entries_from : ℕ
loaded_entries_from = 508

abbrev pub loaded_entry_place : ℕ → ℕ → ℕ → ℕ
loaded_entry_place k a c = entry_place loaded_entries_from k a c

-- 'from 3580 T likewise'
abbrev pub held_entries_from : ℕ
held_entries_from = 3580

abbrev pub held_entry_place : ℕ → ℕ → ℕ → ℕ
held_entry_place k a c = entry_place held_entries_from k a c

-- 'The block gains 24 places from 6652 for them': for the trains, in the order in which they are tried
abbrev pub order_from : ℕ
order_from = 6652

abbrev pub order_place : ℕ → ℕ
order_place d = order_from + d

-- ---- what stands there

-- the number at place p; 0 past the end
abbrev pub at : List ℤ → ℕ → ℤ
at b p = get_or b p (pos 0)

abbrev pub nat : ℤ → ℕ
nat (pos n) = n
nat (negsuc n) = 0

-- the number at place p as a natural one, 0 where it is negative. In a well-formed block only −1 is, at forbidden entries
unfoldable pub figure : List ℤ → ℕ → ℕ
figure b p = nat (at b p)

-- n
abbrev pub trains : List ℤ → ℕ
trains b = figure b trains_place

-- s
abbrev pub scale : List ℤ → ℕ
scale b = figure b scale_place

-- m
abbrev pub pairs : List ℤ → ℕ
pairs b = figure b pairs_place

-- c0, in parts
abbrev pub constant : List ℤ → ℕ
constant b = figure b constant_place

-- d(i)
abbrev pub size : List ℤ → ℕ → ℕ
size b i = figure b (size_place i)

-- i of pair k
abbrev pub first : List ℤ → ℕ → ℕ
first b k = figure b (first_place k)

-- j of pair k
abbrev pub second : List ℤ → ℕ → ℕ
second b k = figure b (second_place k)

-- H of choice a of train i, in points: a loaded cost
abbrev pub loaded_choice : List ℤ → ℕ → ℕ → ℕ
loaded_choice b i a = figure b (loaded_choice_place i a)

-- T of choice a of train i, in parts: a held cost
abbrev pub held_choice : List ℤ → ℕ → ℕ → ℕ
held_choice b i a = figure b (held_choice_place i a)

-- H of the two choices a and c of pair k, in points
abbrev pub loaded_entry : List ℤ → ℕ → ℕ → ℕ → ℕ
loaded_entry b k a c = figure b (loaded_entry_place k a c)

-- T of the two choices a and c of pair k, in parts
abbrev pub held_entry : List ℤ → ℕ → ℕ → ℕ → ℕ
held_entry b k a c = figure b (held_entry_place k a c)

-- the train that is tried d-th, counted from 0: 'which train is tried when'
abbrev pub order : List ℤ → ℕ → ℕ
order b d = figure b (order_place d)
