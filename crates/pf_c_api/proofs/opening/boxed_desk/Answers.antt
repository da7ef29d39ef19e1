use Rattle.std.proofs.Common.{◌≡◌, ◌∙◌, sym, refl, inl, Ok, Err}
use Rattle.pf_desk.specs.declared.fault.OpenFault.TheVariants.{BadSettings}
use Rattle.pf_c_api.proofs.opening.boxed_desk.Goals as goal

pub returns-clause-err : goal.returns-clause-err
returns-clause-err c =
    inl (refl, λ bad. let e : Err BadSettings ≡ Ok c.in-Ok.desk = sym (c.open.ensures.bad_settings.1 bad) ∙ c.in-Ok.is in cc)
