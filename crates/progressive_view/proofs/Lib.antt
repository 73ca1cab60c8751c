mod Standing
mod Used
mod Later
mod Agreeing
