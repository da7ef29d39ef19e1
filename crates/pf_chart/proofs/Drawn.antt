-- What the cuts of a task's windows say of the cells of their line.
use Rattle.std.proofs.Common.{◌≡◌, ℕ, zero, suc, ◌-◌, ◌<◌, ◌≤◌, Bool, true, false, nat_le, cond, List, [], ◌∷◌, length, take, drop, get_or, filter, refl, sym, ap, ◌∙◌, arith, length-drop}
use Rattle.std.specs.Prelude.{slice_range}
use Rattle.pf_courses.specs.Activity.{covers}
use Rattle.pf_courses.specs.Course.{Track}
use Rattle.pf_courses.specs.Cut.{IsCut}
use Rattle.pf_courses.specs.declared.window.Window.{Window}
use Rattle.pf_courses.proofs.Activity.{covers_is, covers_none}
use Rattle.pf_courses.proofs.Cuts.{filter_between}
use Rattle.pf_chart.specs.Cells.{window_symbol, windows_symbol, window_cell}

-- the windows that cover slot t
pub covering_between : (track : Track) (t a b : ℕ) → t < track.end → IsCut (λ w. nat_le w.release t) a track.windows → IsCut (λ w. nat_le w.deadline t) b track.windows →
    window_cell track t ≡ windows_symbol t (slice_range track.windows b a)
covering_between track t a b inside released due =
    ap (windows_symbol t) (ap (λ f. filter f track.windows) (λ k w. covers_is track t inside w k)
    ∙ filter_between (λ w. nat_le w.release t) (λ w. nat_le w.deadline t) track.windows a b released due)

pub covering_over : (track : Track) (t : ℕ) → track.end ≤ t → window_cell track t ≡ 32
covering_over track t over = ap (windows_symbol t) (none track.windows)
  where
    kept_none : (v : Bool) (w : Window) (ws : List Window) → v ≡ false → cond v (w ∷ ws) ws ≡ ws
    kept_none false w ws f = refl
    kept_none true w ws f = cc

    none : (ws : List Window) → filter (covers track t) ws ≡ []
    none [] = refl
    none (w ∷ ws) = kept_none (covers track t w) w (filter (covers track t) ws) (covers_none track t over w) ∙ none ws

pub covered_none : (t : ℕ) (ws : List Window) (a b : ℕ) → a ≤ b → windows_symbol t (slice_range ws b a) ≡ 32
covered_none t ws a b none = ap (λ n. windows_symbol t (take n (drop b ws))) (let z : a - b ≡ 0 = omega arith in z)

many : (t n : ℕ) (ws : List Window) → 1 < n → 1 < length ws → windows_symbol t (take n ws) ≡ 88
many t (suc (suc n)) (w ∷ v ∷ ws) some long = refl
many t (suc zero) ws some long = absurd (omega arith)
many t zero ws some long = absurd (omega arith)
many t (suc (suc n)) [] some long = absurd (omega arith)
many t (suc (suc n)) (w ∷ []) some long = absurd (omega arith)

pub covered_twice : (t : ℕ) (ws : List Window) (a b : ℕ) → 1 < a - b → a ≤ length ws → windows_symbol t (slice_range ws b a) ≡ 88
covered_twice t ws a b some within = many t (a - b) (drop b ws) some (omega (arith, length-drop b ws))

one : (t : ℕ) (ws : List Window) (b : ℕ) (d : Window) → b < length ws → windows_symbol t (take 1 (drop b ws)) ≡ window_symbol t (get_or ws b d)
one t [] b d within = absurd (omega arith)
one t (w ∷ ws) zero d within = refl
one t (w ∷ ws) (suc b) d within = one t ws b d (omega arith)

pub covered_once : (t : ℕ) (ws : List Window) (a b : ℕ) (d : Window) → a - b ≡ 1 → a ≤ length ws → windows_symbol t (slice_range ws b a) ≡ window_symbol t (get_or ws b d)
covered_once t ws a b d once within = ap (λ n. windows_symbol t (take n (drop b ws))) once ∙ one t ws b d (omega arith)

-- Use: the symbol of the one window that covers slot t.
pub covered_symbol : (track : Track) (t a b : ℕ) (ws : List Window) (d : Window) (symbol : ℕ) → t < track.end → IsCut (λ w. nat_le w.release t) a track.windows →
    IsCut (λ w. nat_le w.deadline t) b track.windows → a - b ≡ 1 → ws ≡ track.windows → symbol ≡ window_symbol t (get_or ws b d) → symbol ≡ window_cell track t
covered_symbol track t a b ws d symbol inside released due once same is =
    is ∙ ap (λ ws. window_symbol t (get_or ws b d)) same
    ∙ sym (covering_between track t a b inside released due ∙ covered_once t track.windows a b d once released.within)
