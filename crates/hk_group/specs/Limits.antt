-- How much a problem may hold.
use Rattle.std.specs.Prelude.{ℕ, ℤ, pos}

-- how many variables there are at most
abbrev pub most_variables : ℕ
most_variables = 256

-- how many values there are: a variable takes values from 0 to 127
abbrev pub value_count : ℕ
value_count = 128

-- how many bytes a name has at most
abbrev pub most_name_bytes : ℕ
most_name_bytes = 32

-- how many constraints there are at most
abbrev pub most_constraints : ℕ
most_constraints = 64

-- how many groups there are at most
abbrev pub most_groups : ℕ
most_groups = 32

-- how many values a window has at most
abbrev pub most_window : ℕ
most_window = 32

-- how great a coefficient is at most in size
abbrev pub greatest_coefficient : ℤ
greatest_coefficient = pos 1000000

-- how many rows a layer has at most
abbrev pub most_rows : ℕ
most_rows = 256

-- how many entries a group's diagram has room for at most
abbrev pub most_group_entries : ℕ
most_group_entries = 1000000

-- how many entries all diagrams have room for at most
abbrev pub most_entries : ℕ
most_entries = 4000000

-- how many properties all diagrams have room for at most
abbrev pub most_properties : ℕ
most_properties = 8000000
