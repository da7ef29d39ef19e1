-- An answer, whatever is said of who writes files.
use Rattle.std.proofs.Common.{◌≡◌, ◌++◌, ℕ, List, Bool, Result, Ok, Err, IfOk, OnErr, inl, inr, refl, subst}
use Rattle.pf_session.specs.Showings.{Showings}
use Rattle.pf_session_lines.specs.declared.heard.Heard.{Heard}
use Rattle.pf_session_lines.specs.declared.heard.Heard.TheVariants.{Nothing, Heading, Record, Shown, Reverse, Save, Help, Quit, Bad}
use Rattle.pf_session.specs.Session.{SessionState}
use Rattle.pf_session_lines.specs.declared.showing.Showing.{Showing}
use Rattle.pf_session_lines.specs.declared.showing.Showing.TheVariants as showing
use Rattle.pf_stream.specs.declared.dialogue.answers.Going.{Going}
use Rattle.pf_stream.specs.declared.dialogue.answers.Stopped.{Stopped}
use Rattle.pf_session_turns.specs.Turns.{AnswersLine, GoesOn, IsStopped, Saves, heard_of}
use Rattle.pf_session_turns.specs.Sitters.{answers, stops}

abbrev no_more : Unit {0} → List ℕ → List ℕ → Bool → Unit {0} → Type 0
no_more v file bytes is_saved w = Unit {0}

saves : {S : Type 0} (by : S → List ℕ → List ℕ → Bool → S → Type 0) (s : SessionState) (v : S) (file : List ℕ) (made : Showing) (g : Going) (a : List ℕ)
    (t : SessionState) (w : S) → Saves by s v file made g a t w → Saves no_more s tt file made g a t tt
saves by s v file (showing.Bad words) g a t w h = (h.0, h.1, h.2, refl)
saves by s v file (showing.Text text) g a t w h = (h.0, tt, h.2, h.3, h.4)

goes_on : (shows : Showings) {S : Type 0} (by : S → List ℕ → List ℕ → Bool → S → Type 0) (s : SessionState) (v : S) (heard : Heard) (g : Going) (a : List ℕ)
    (t : SessionState) (w : S) → GoesOn shows by s v heard g a t w → GoesOn shows no_more s tt heard g a t tt
goes_on shows by s v Nothing g a t w h = (h.0, h.1, h.2, refl)
goes_on shows by s v Heading g a t w h = (h.0, h.1, h.2, refl)
goes_on shows by s v (Record said line) g a t w h = (h.0, h.1, h.2, refl)
goes_on shows by s v (Shown wanted) g a t w h = (h.0, h.1, (h.2.0, h.2.1, h.2.2, refl))
goes_on shows by s v (Reverse reversal) g a t w h = (h.0, h.1, h.2, refl)
goes_on shows by s v (Save file) g a t w h = (h.0, h.1, saves by s v file h.0 g a t w h.2)
goes_on shows by s v Help g a t w h = (h.0, h.1, h.2, refl)
goes_on shows by s v Quit g a t w h = (h.0, h.1, h.2, refl)
goes_on shows by s v (Bad field text hint) g a t w h = (h.0, h.1, h.2, refl)

answered : (shows : Showings) {S : Type 0} (by : S → List ℕ → List ℕ → Bool → S → Type 0) (s : SessionState) (v : S) (line : List ℕ) (g : Going) (a : List ℕ)
    (t : SessionState) (w : S) → AnswersLine shows by s v line g a t w → answers shows s line a g t
answered shows by s v line g a t w (inl h) = inl (goes_on shows by s v (heard_of s line) g a t w h)
answered shows by s v line g a t w (inr h) = inr (h.0, h.1, h.2, refl)

-- Use: a line of a session was taken, which a sitter stands for.
pub taken : (shows : Showings) {S : Type 0} (by : S → List ℕ → List ℕ → Bool → S → Type 0) (s r : SessionState) (v : S) (line : List ℕ) (result : Result Going Stopped)
    (t : SessionState) (w : S) (old new : List ℕ) → s ≡ r
    → IfOk result (λ g. (a : List ℕ) × AnswersLine shows by s v line g a t w × (new ≡ old ++ a))
    → IfOk result (λ g. (a : List ℕ) × answers shows r line a g t × (new ≡ old ++ a))
taken shows by s r v line (Ok g) t w old new same h =
    (h.0, subst (λ (q : SessionState). answers shows q line h.0 g t) same (answered shows by s v line g h.0 t w h.1), h.2)
taken shows by s r v line (Err fault) t w old new same h = tt

-- Use: it was not answered.
pub stopped : (s r : SessionState) (line : List ℕ) (result : Result Going Stopped) (t : SessionState) → s ≡ r
    → OnErr result (IsStopped s line t) → OnErr result (stops r t)
stopped s r line (Ok g) t same h = tt
stopped s r line (Err fault) t same h = (line, subst (λ (q : SessionState). IsStopped q line t) same h)
