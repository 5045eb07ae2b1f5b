-- Runs of pages as spans.
use Rattle.std.specs.Prelude.{ℕ}
use Rattle.pt_num.specs.declared.Span.{Span}

-- a first page and a count as a span
abbrev pub span_of : ℕ × ℕ → Span
span_of run = record { first = run.0; count = run.1 }
