-- A change that was made ready, and is not made.
use Rattle.std.proofs.Common.{◌≡◌, ℕ, List, [], ◌∷◌, ◌++◌, ◌∙◌, inr, ap, subst}
use Rattle.pf_desk.specs.declared.command.Command.{Command}
use Rattle.pf_desk.specs.declared.entry.Entry.{Entry}
use Rattle.pf_desk.specs.Machine.{reply_to}
use Rattle.pf_desk.specs.Desk.{Shown, Ready, IsAsBefore, MakesReady, StandsForHistory}
use Rattle.pf_vocabulary.specs.declared.names.titles.Titles.{Titles}
use Rattle.pf_vocabulary.specs.declared.options.format.Format.{Format}
use Rattle.pf_c_api.specs.declared.held.Held.{Held}
use Rattle.pf_c_forms.specs.declared.raw_reply.RawReply.{RawReply}
use Rattle.pf_c_api.specs.Supposed.{IsSeenAfter, Supposes, TellsReady}

-- Use: what was told of a command made ready is told of the desk.
pub supposed : (caller : ℕ) (command : Command) (format : Format) (held after : Held) (ready : Ready) (status : ℕ) (told telling : RawReply)
    (count : ℕ) (room filled : List ℕ) → MakesReady caller command held.desk ready → IsAsBefore held.desk after.desk → after.titles ≡ held.titles
    → TellsReady ready.entry.reply ready.seen format after status told telling count room filled
    → Supposes caller command format held status told telling count room filled
supposed caller command format held after ready status told telling count room filled makes same titles tells =
    let d : Shown = held.desk in
    let reply : ready.entry.reply ≡ reply_to d.state command = ap (λ (e : Entry). e.reply) makes.entry in
    let there : after ≡ record { desk = record d { spare = after.desk.spare }; titles = held.titles } =
    ap (λ (s : Shown). record { desk = s; titles = after.titles }) same.rest
    ∙ ap (λ (t : Titles). record { desk = record d { spare = after.desk.spare }; titles = t }) titles in
    let seen_after : IsSeenAfter caller command d ready.seen = record {
      stands = subst (λ e. StandsForHistory (d.history ++ e ∷ []) ready.seen) makes.entry makes.seen;
      state = makes.state;
    } in
    inr (
      ready.seen,
      seen_after,
      subst (λ (h : Held). TellsReady (reply_to d.state command) ready.seen format h status told telling count room filled) there
          (subst (λ r. TellsReady r ready.seen format after status told telling count room filled) reply tells),
    )
