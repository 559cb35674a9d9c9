use Rattle.std.proofs.Common.{ℕ, List, ap, ◌∙◌, arith}
use Rattle.smpp_link.proofs.Frames.{submit_as}
use Rattle.smpp_link.proofs.submitting.submit_frame.Goals as goal

pub frame_of-requires : goal.frame_of-requires
frame_of-requires c =
    let made = c.in_ok-esm_class.ensures in
    submit_as c.args.tag c.args.number c.args.sms.now c.args.now c.in_ok-esm_class.esm_class c.as_slice.result.now c.as_slice-2.result.now _
    (ap (λ (x : ℕ × List ℕ). x.0) made) (c.as_slice.ensures ∙ ap (λ (x : ℕ × List ℕ). x.1) made) (c.as_slice-2.ensures ∙ c.in_ok-period.ensures)
    c.submit_of-body.ensures c.requires (omega arith)
