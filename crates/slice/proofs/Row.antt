-- What the walks cite of a `Call` as an element of a row: its types, how its machine value is spelled, and its laws, each under a short name.
-- Assumes `Logic`.
use mathlib.Core.Path.{subst}
use Prim.Native.Nat.{ℕ}
use mathlib.Core.List.{List, ◌∷◌, []}
use seplogic.Ra.Ura.{Ura}
use lib.Dec.{T}
use mir.Syntax.{Ty, ty_ref, named, imm, mut}
use mir.Val.{Val, has_ty, WT}
use types.Logic.{Logic}
use denote.RattleType.{RattleType}
use denote.Laws.{Is, Tells, Makes, Copy, Lawful}
use denote.Memory.{pointee}
use denote.Slice.{slice_ty}
use denote.Struct.Laws as LL
use denote.Steps.{only}
use Rattle.call.specs.declared.Call.{Call}
use Rattle.call.specs.contracts.Call as S
use Rattle.call.proofs.Call.TheLaws as S'

abbrev pub R : RattleType
R = S.the_row

abbrev pub cell : Ty
cell = S'.mir

-- its size
abbrev pub bytes : ℕ
bytes = 96

abbrev pub slice : Ty
slice = slice_ty (ty_ref (named 0) mut (pointee R.written))

abbrev pub shared : Ty
shared = slice_ty (ty_ref (named 0) imm (pointee R.written))

abbrev pub vals : Call → List Val
vals = LL.vals S.the_type S'.the_laws

-- its machine value; it doesn't compute to `S'.lowered`, which goes through the array of waiting DLI1s in another way
abbrev pub low : Call → Val
low c = only (vals c)

pub tells : Tells R (Is R) vals
tells = LL.tells S.the_type S'.the_laws

-- the same at the machine value that a struct which holds the record has for it
pub is_lowered : (c : Call) → Is R c (vals c) → Is R c (S'.lowered c ∷ [])
is_lowered c g = subst (Is R c) ((S'.lowers).val_is c (vals c) g) g

module _ {M : Type 1} {𝓤 : Ura M} (𝓛 : Logic 𝓤) where
  pub makes : Makes 𝓛 R (Is R)
  makes = LL.makes S.the_type S'.the_plain 𝓛

module _ {M : Type 1} {𝓤 : Ura M} (𝓛 : Logic 𝓤) where
  pub copies : Copy 𝓛 R
  copies = LL.copy S.the_type S'.the_copy 𝓛

  lawful : Lawful 𝓛 R
  lawful = LL.lawful S.the_type S'.the_laws 𝓛

  pub typed : (c : Call) → Is R c (vals c) → T (has_ty cell (low c)) × WT (low c)
  typed c g = (lawful.typed c (vals c) g).0

  -- the same at any machine value that the relation allows
  pub typed_at : (c : Call) (v : Val) → Is R c (v ∷ []) → T (has_ty cell v) × WT v
  typed_at c v g = (lawful.typed c (v ∷ []) g).0
