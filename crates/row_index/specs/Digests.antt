use Rattle.std.specs.Prelude.{ℕ, ◌+◌, ◌*◌, ◌%◌, ◌^◌}

-- a digest with a number mixed into it
abbrev pub mix : ℕ → ℕ → ℕ
mix digest number = ((digest * 1099511628211) % (2 ^ 64) + number) % (2 ^ 64)
