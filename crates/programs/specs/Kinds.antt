-- Document 01, "Orders": the numbers of the kinds. Assumes nothing.
use Rattle.std.specs.Prelude.{◌≡◌, ℕ, ◌<◌, Result, MatchResult}
use Rattle.programs.specs.declared.kind.Kind.{Kind}
use Rattle.programs.specs.declared.kind.Kind.TheVariants.{Add, Subtract, AddConstant, TimesConstant, Product, Refresh}
use Rattle.programs.specs.declared.kind.Kind.TheVariants.{Slack, OneBit, Exact, Relu, Curve}
use Rattle.programs.specs.declared.kind.UnknownKind.{UnknownKind}

-- "0 add. 1 subtract. 2 add constant (to m). 3 times constant. 4 product. 5 refresh. 6 large slack. 7 one-bit.
-- 8 exact. 9 ReLU. 10 curve"
abbrev pub kind_number : Kind → ℕ
kind_number Add = 0
kind_number Subtract = 1
kind_number AddConstant = 2
kind_number TimesConstant = 3
kind_number Product = 4
kind_number Refresh = 5
kind_number Slack = 6
kind_number OneBit = 7
kind_number Exact = 8
kind_number Relu = 9
kind_number Curve = 10

-- the kind with this number; or none, for a word above 10
abbrev pub Decodes : ℕ → Result Kind UnknownKind → Type 0
Decodes word r = MatchResult r (λ kind. kind_number kind ≡ word) (λ e. (e.0 ≡ word) × (10 < word))
