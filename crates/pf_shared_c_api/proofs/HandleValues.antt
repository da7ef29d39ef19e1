-- The machine values of a `Handle`. Assumes `Logic`.
use Rattle.std.proofs.Common.{◌≡◌, ℕ, Option, None, Some, List, [], ◌∷◌, ◌++◌, refl, subst}
use base.Fraction.{full_share}
use seplogic.Ra.Ura.{Ura}
use mir.Raw.{raw as bare}
use mir.Syntax.{impl, tnil, dnil}
use mir.Val.{Val, vstruct, vcons, vnil, of_list}
use base.Logic.{never, fst∗, snd∗, guard_i, via}
use contract.Monad.{fact_use}
use types.Logic.{Logic, sem}
use types.Kit.{Item, Goal, Seq, Step, step, ‵, given, ◌$◌, drop, fsplit, fjoin, fpick, fpack, feq_i, feq_l, use1, learn}
use denote.RattleType.{RattleType, Valss}
use denote.Builtin.{RawPtr}
use denote.Memory.{lone}
use denote.RawPtr.{Ptr, block_ptr, null_ptr, ptr_val, in_a_block, lies_at, Testable}
use denote.Steps.{nothing}
use denote.Struct.Struct.{within}
use denote.Struct.Owning.{shape}
use Rattle.std.specs.contracts.alloc.Global as heap
use Rattle.std.proofs.alloc.Global.TheLaws as heap_laws
use Rattle.std.specs.contracts.impls.GlobalAllocator.TheImpl.{ghosts}
use Rattle.std.proofs.alloc.Calls.{Al}
use Rattle.std.proofs.GlobalToken.{dealloc_token-Testable}
use Rattle.std.specs.Box.Ownership.{box_owns}
use Rattle.pf_c_forms.specs.Kept.{kept_at, token}
use Rattle.pf_shared_c_api.specs.contracts.content.Content as content
use Rattle.pf_shared_c_api.specs.contracts.handle.Handle as handle

abbrev pub Z : RattleType
Z = heap.the_row

abbrev pub R : RattleType
R = content.the_row

abbrev pub HandleRow : RattleType
HandleRow = handle.the_row

abbrev pub al : Al
al = record { row = Z; laws = heap_laws.the_row_laws; g = ghosts; d = impl [] tnil dnil; drops = impl [] tnil dnil }

-- a struct of one field
abbrev pub of_one : Val → Val
of_one v = vstruct (vcons v vnil)

module _ {M : Type 1} {𝓤 : Ura M} {𝓛 : Logic 𝓤} {K : Type 0} {Γ : List (Item 𝓤)} {G : Goal 𝓤 𝓛.H} where
  pub handle_out : K → (d : HandleRow.Denot) (vs : List Val)
      → (vs ≡ of_one (ptr_val d.at) ∷ [] → Seq K 𝓛 (‵ (kept_at R d.at d.value) ∷ Γ) G)
      → Seq K 𝓛 (‵ (HandleRow.own_val d vs) ∷ Γ) G
  handle_out t d vs k =
      fsplit t $ fpick t (λ vss. fsplit t $ feq_l t (λ ev. fsplit t $ feq_l t (λ ep. drop t $
      k (subst (λ (ps : List Val). vs ≡ vstruct (of_list (ps ++ [])) ∷ []) ep ev))))

  pub handle_in : K → (p : Ptr) (x : Option R.Denot)
      → Step K 𝓛 (‵ (HandleRow.own_val (record { at = p; value = x }) (of_one (ptr_val p) ∷ [])) ∷ Γ) G (‵ (kept_at R p x) ∷ Γ) G
  handle_in t p x = step (λ s. let v : Val = of_one (ptr_val p) in
      nothing t $ feq_i t (List Val) (ptr_val p ∷ []) (ptr_val p ∷ []) refl $ fjoin t $ feq_i t (List Val) (v ∷ []) (v ∷ []) refl $ fjoin t $
      fpack t (Valss (RawPtr ∷ [])) (within (shape handle.the_type) (p, tt) (v ∷ [])) (ptr_val p ∷ [], tt) $ fjoin t $ s)

  -- nothing, at null, or a box at a block that may be compared with null
  pub either : K → (p : Ptr) (x : Option R.Denot)
      → (x ≡ None → p ≡ null_ptr → Seq K 𝓛 Γ G)
      → ((b o : ℕ) (y : R.Denot) → x ≡ Some y → p ≡ block_ptr b o → Testable (block_ptr b o) → Seq K 𝓛 (‵ (box_owns token R (block_ptr b o) y) ∷ Γ) G)
      → Seq K 𝓛 (‵ (kept_at R p x) ∷ Γ) G
  either t p None none one = feq_l t (λ e. none refl e)
  either t p (Some y) none one =
      in_a_block t p (λ q. box_owns token R q y) (fst∗ 𝓤 (never 𝓤) (sem 𝓛 (token (bare (lone R.mir)) null_ptr))) (λ b o e.
      let q : Ptr = block_ptr b o in let B = box_owns token R q y in let τ = bare (lone R.mir) in
      use1 𝓛 (given (Testable q) (‵ B))
      (fact_use 𝓤 (Testable q) (via 𝓤 (sem 𝓛 (token τ q)) (snd∗ 𝓤 (sem 𝓛 (lies_at R full_share q y)) (sem 𝓛 (token τ q))) (dealloc_token-Testable 𝓛 (record { memory = record { seal = tt } }) τ q)) (guard_i 𝓤 (Testable q) (sem 𝓛 B))) $
      learn t (λ u. one b o y refl e u))
