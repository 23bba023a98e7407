pub mod SharedStepLaws
mod ValueLaws
mod PinLaws
mod HeldLaws
mod SeenLaws
mod TextLaws
mod BytesLaws
mod ExpressionLaws
pub mod SharedCountLaws
mod ParenthesesLaws
pub mod SharedGroupLaws
