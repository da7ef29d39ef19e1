-- What a fit rests on, and its verdict.
use Rattle.std.specs.Prelude.{ℕ, Bool, Option, List, length, sum_by}
use Rattle.pf_run.specs.Computed.{run_of}
use Rattle.pf_tally.specs.Figures.{figures_of}
use Rattle.pf_tally.specs.declared.figures.Figures.{Figures}
use Rattle.pf_tally.specs.Load.{overload_of}
use Rattle.pf_desk.specs.Desk.{Seen}
use Rattle.pf_verdict.specs.declared.strain.Strain.{Strain}
use Rattle.pf_verdict.specs.declared.verdict.Verdict.{Verdict}
use Rattle.pf_verdict.specs.declared.verdict.Grounds.{Grounds}
use Rattle.pf_verdict.specs.Carries.{carries_cap}
use Rattle.pf_verdict.specs.Grow.{grows_of}
use Rattle.pf_verdict.specs.Strain.{above_of, strain_of}
use Rattle.pf_verdict.specs.Verdict.{unreached_of, verdict_of}

-- the parts of a `Findings`
pub record Found : Type 0 where
  pub verdict : Verdict
  pub refused : ℕ
  pub denied : ℕ
  pub unreached : ℕ
  pub strain : Strain
  pub units : ℕ
  pub carries : Bool
  pub figures : List Figures
  pub grows : List (Option ℕ)

-- the grounds of what was seen, where so many commands were refused
abbrev pub grounds_of : Seen → ℕ → Grounds
grounds_of seen refused = record {
  refused = refused;
  denied = length seen.denials;
  missed = sum_by (λ f. f.missed) (figures_of seen.state.plan (run_of seen.state.plan seen.state.now) seen.rows);
  above = above_of seen.state.plan (run_of seen.state.plan seen.state.now) seen.state.now;
  unreached = unreached_of seen.state.plan seen.state.now;
}

abbrev pub findings_of : Seen → ℕ → Found
findings_of seen refused = record {
  verdict = verdict_of (grounds_of seen refused);
  refused = refused;
  denied = length seen.denials;
  unreached = unreached_of seen.state.plan seen.state.now;
  strain = strain_of seen.state.plan (run_of seen.state.plan seen.state.now) seen.state.now;
  units = overload_of seen.state.plan (run_of seen.state.plan seen.state.now) seen.state.now;
  carries = carries_cap seen.state.plan;
  figures = figures_of seen.state.plan (run_of seen.state.plan seen.state.now) seen.rows;
  grows = grows_of seen.state.plan (run_of seen.state.plan seen.state.now);
}
