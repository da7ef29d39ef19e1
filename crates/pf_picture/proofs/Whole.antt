-- What a picture is measured by.
use Rattle.std.proofs.Common.{◌≡◌, ℕ, ◌-◌, ◌≤◌, Bool, List, length, filter, ap, ◌∙◌, arith}
use Rattle.std.proofs.lemmas.List.{length-map}
use Rattle.std.proofs.lemmas.List.FromFn.{length-range_with_len}
use Rattle.std.proofs.lemmas.List.Sums.{length-filter, count_by-le-length}
use Rattle.std.specs.List.{count_by, range_with_len}
use Rattle.pf_vocabulary.specs.declared.names.named.Named.{Named}
use Rattle.pf_weight.specs.declared.task.TheConstants.{LARGEST_TASK}
use Rattle.pf_run.specs.Computed.{run_of}
use Rattle.pf_desk.specs.Desk.{Seen}
use Rattle.pf_courses.specs.Course.{tracks_of}
use Rattle.pf_courses.specs.Listing.{is_listed, listing_of, listings_of}
use Rattle.pf_picture.specs.Drawing.{Drawing, drawing_of, drawings_of}
use Rattle.pf_picture.specs.Shown.{TaskDrawings, parted}
use Rattle.pf_vocabulary.specs.Tasks.Listed.{is_listed as is_in}
use Rattle.pf_vocabulary.specs.declared.tasks.task_range.TaskRange.{TaskRange}

few_among : (tests : ℕ → Bool) (numbers : List ℕ) (count : ℕ) → count ≡ count_by tests numbers → length numbers ≡ 4095 → count ≤ 4095
few_among tests numbers count is many = omega (arith, is, many, count_by-le-length tests numbers)

-- Use: no more tasks are listed than there are numbers.
pub few_drawings : (seen : Seen) (names : List Named) (drawings : List Drawing) → drawings ≡ drawings_of seen names → length drawings ≤ 4095
unfolding drawings_of listings_of
few_drawings seen names drawings are =
    let tests = is_listed seen.state.plan seen.state.now in
    let numbers = range_with_len 1 LARGEST_TASK in
    let tracks = tracks_of seen.state.plan (run_of seen.state.plan seen.state.now) seen.rows in
    let all : length drawings ≡ length (filter tests numbers) =
    ap length are ∙ length-map (listings_of seen.state.plan seen.state.now seen.rows seen.denials) (drawing_of names seen.state.plan.events seen.state.now seen.denials)
    ∙ length-map (filter tests numbers) (listing_of seen.state.plan.events seen.denials tracks) in
    few_among tests numbers (length drawings) (all ∙ length-filter tests numbers) (length-range_with_len 1 LARGEST_TASK)

-- Use: no more are shown than are listed.
pub few_shown : (tasks : List TaskRange) (drawings : List Drawing) (parts : TaskDrawings) → parts ≡ parted tasks drawings → length drawings ≤ 4095 → length parts.shown ≤ 4095
few_shown tasks drawings parts are few =
    let test : Drawing → Bool = λ d. is_in tasks d.listing.task in
    omega (arith, ap (λ p. length p.shown) are, length-filter test drawings, count_by-le-length test drawings, few)
