-- `structures::header::parse` meets its contract. Assumes nothing.
use mathlib.Core.Path.{◌≡◌, sym, ◌∙◌}
use native.Mathlib.Omega.{arith}
use Rattle.std.proofs.Common.{rules}
use Rattle.refusal.specs.Refusals.{figure}
use Rattle.refusal.specs.Outcome.{◌yields◌}
use Rattle.checksum.specs.Lookup3.{lookup3}
use Rattle.structures.specs.Header.{signed_header_test}
use Rattle.structures.proofs.HeaderTests.{passed_is}
use Rattle.structures.proofs.StructureTests.{figure-header}
use Rattle.structures.proofs.header.parse.Given as given
use Rattle.structures.proofs.header.parse.Goals.{After-test_header}
use Rattle.structures.proofs.header.parse.Goals as goal

-- the test is that of the header's bytes, also where these are past 2^64 − 1
tested : (g : given.Over) (c : After-test_header g)
    → let a = c.args in
    let h = g.H.IndexHeader in
    c.test_header.result
    ≡ signed_header_test h.WRONG_SIGNATURE h.SIGNATURE lookup3 a.file.now a.address (h.bytes a.offset_size a.length_size) a.offset_size a.length_size
tested g c =
    let a = c.args in
    let h = g.H.IndexHeader in
    let e = figure-header lookup3 a.file.now a.address (h.bytes a.offset_size a.length_size) h.WRONG_SIGNATURE h.SIGNATURE a.offset_size a.length_size (omega arith) in
    search rules

pub test_header-requires : goal.test_header-requires
unfolding figure
test_header-requires g c =
    let a = c.args in
    omega (arith, c.serialized_size-size.ensures, g.met.H.IndexHeader.has_form a.offset_size a.length_size)

pub returns-in_err-test_header : goal.returns-in_err-test_header
unfolding ◌yields◌
returns-in_err-test_header g c =
    let e = tested g (goal.at.returns-in_err-test_header g c).After-test_header in
    search rules

pub read_at-requires : goal.read_at-requires
read_at-requires g c =
    passed_is _ _ _ _ _ _ _ _ (sym (tested g (goal.at.read_at-requires g c).After-test_header) ∙ c.in_ok-test_header.was)

pub returns : goal.returns
unfolding ◌yields◌
returns g c =
    let e = tested g (goal.at.returns g c).After-test_header in
    search rules
