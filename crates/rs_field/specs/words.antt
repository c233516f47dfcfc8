-- Words as mathematics: the field, polynomials, transforms, the locator, and tables of them. It rests on nothing else.
pub mod Search
pub mod UpTo
pub mod Field
pub mod Polynomial
pub mod Subspace
pub mod Transform
pub mod Locator
pub mod Walsh
pub mod Tables
pub mod Products
pub mod Laws
pub mod Inverse
pub mod Derivative
pub mod DirectSum
pub mod StepBounds
